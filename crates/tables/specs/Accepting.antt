-- Acceptance of what the reading question's function answers: exactly the bytes of a table that obeys the layout are accepted, and all others are
-- refused as document 01 lists. The statement is proved in proofs/Accepting.
use Rattle.std.specs.Prelude.{◌≡◌, ◌≢◌, List, ℕ, length, Result, Ok, Err}
use Rattle.rules.specs.Layout.{Table, Obeys, written}
use Rattle.rules.specs.Table.{says}
use Rattle.rules.specs.ListedCases.{RefusedAt}
use Rattle.refusals.specs.Refusals.{number_of}
use Rattle.refusals.specs.declared.Refusal.{Refusal}
use Rattle.tables.specs.declared.Outline.{Outline}
use Rattle.tables.specs.Readings.{Reads}

-- Accepted: the bytes are a table that obeys the layout, as it is written; they say that table, and the outline has its numbers of routers and links.
-- Refused: by the first bad record or by 7, as listed, and they are no such table.
abbrev pub OfReading : List ℕ → Result Outline Refusal → Type 0
OfReading bytes (Ok t) =
    (table : Table)
    × Obeys table
    × (bytes ≡ written table)
    × (says bytes ≡ table)
    × (t.routers ≡ table.routers)
    × (t.links ≡ length table.links)
OfReading bytes (Err r) = RefusedAt bytes (number_of r.reason) r.place × ((table : Table) → Obeys table → bytes ≢ written table)

-- whatever bytes arrive
abbrev pub AcceptanceOfTheCode : Type 0
AcceptanceOfTheCode = (bytes : List ℕ) (r : Result Outline Refusal) → Reads bytes r → OfReading bytes r
