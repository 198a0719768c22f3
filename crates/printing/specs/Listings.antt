-- What `print_listing` writes, piece by piece in the order of its code; that the pieces are the listing is proved in proofs/Listings.
use Rattle.std.specs.Prelude.{◌≡◌, ℕ, Result, Ok, Err}
use mathlib.Core.List.{List, [], ◌∷◌, map, flatten}
use Rattle.rules.specs.Words.{below}
use Rattle.rules.specs.Listing.{header, refusal_line, listing}
use Rattle.tables.specs.Readings.{Reads}
use Rattle.tables.specs.declared.Outline.{Outline}
use Rattle.refusals.specs.Refusals.{number_of}
use Rattle.refusals.specs.declared.Refusal.{Refusal}
use Rattle.webs.specs.Webs.{web_weight, web_at}
use Rattle.lines.specs.Lines.{lines_over}

-- a router's page: its lines, by a search from it over the table's web
unfoldable pub page_of : List ℕ → Outline → ℕ → List ℕ
page_of table t router = lines_over (web_weight (web_at table t)) t.routers router

-- what is written once the table is read: the header and a page for each router, or the refusal alone
unfoldable pub pieces : List ℕ → Result Outline Refusal → List (List ℕ)
pieces table (Ok t) = header ∷ map (page_of table t) (below t.routers)
pieces table (Err r) = refusal_line (number_of r.reason) r.place ∷ []

-- For every byte string and whatever reading answers to it, the pieces joined are its listing.
abbrev pub PrintsTheListing : Type 0
PrintsTheListing = (table : List ℕ) (reading : Result Outline Refusal) → Reads table reading → flatten (pieces table reading) ≡ listing table
