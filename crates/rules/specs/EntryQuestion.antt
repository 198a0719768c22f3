-- The entry of a router for a previous hop and a destination; the answer is its code.
use Rattle.std.specs.Prelude.{◌≡◌, ◌≢◌, ◌⊎◌, Bool, ◌&&◌, ◌||◌, not, List, [], ◌∷◌, ℕ, ◌<◌}
use Rattle.rules.specs.Words.{◌=?◌, Line, ◌when◌}
use Rattle.rules.specs.Table.{says}
use Rattle.rules.specs.Entries.{Entry, entry, code, starts_here}
use Rattle.rules.specs.Demand2.{FourLines}
use Rattle.rules.specs.Answers.{Answer, Answered, answer, on_tables, bad_router, Case, ◌unless◌, accepts, Exactly, RefusedBy}

pub record EntryInputs : Type 0 where
  pub table : List ℕ
  pub router : ℕ
  pub previous : ℕ
  pub destination : ℕ

-- a previous hop that is neither 255 nor a router below N, or equals the router asked about
abbrev pub bad_previous : ℕ → ℕ → ℕ → Bool
bad_previous n i j = (not (j =? starts_here) && bad_router n j) || j =? i

-- 9: router, destination or previous hop, of a table of n routers
unfoldable pub entry_refusals : ℕ → ℕ → ℕ → ℕ → List (Line ℕ)
entry_refusals n i j d = 9 when (bad_router n i || bad_router n d || bad_previous n i j) ∷ []

-- the entry that is asked for
unfoldable pub entry_asked : EntryInputs → Entry
entry_asked q = entry (says q.table) q.router q.previous q.destination

unfoldable pub entry_answer : EntryInputs → Answer ℕ
entry_answer q =
    answer (on_tables (q.table ∷ []) (entry_refusals (says q.table).routers q.router q.previous q.destination)) 0 (code (entry_asked q))

-- ---- what is proved (proofs/EntryQuestion)

-- what 9 asks for: routers, and a previous hop that is 255 or a router, but not the router itself
pub record EntryNumbers (n i j d : ℕ) : Type 0 where
  pub router_below : i < n
  pub destination_below : d < n
  pub previous_below : (j ≡ 255) ⊎ (j < n)
  pub not_itself : j ≢ i

-- the table, 9
abbrev pub entry_cases : EntryInputs → List Case
entry_cases q = accepts 0 q.table ∷ 9 unless EntryNumbers (says q.table).routers q.router q.previous q.destination ∷ []

pub record EntryProved (q : EntryInputs) : Type 0 where
  pub exactly : Exactly (entry_cases q) 0 (code (entry_asked q)) (entry_answer q)
  pub refusals : RefusedBy 0 (9 ∷ []) 0 (entry_answer q)
  -- the code is by the four lines, over costs and neighbours
  pub by_lines : Answered (entry_answer q) → FourLines (says q.table) q.router q.previous q.destination (entry_answer q).values
