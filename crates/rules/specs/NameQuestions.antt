-- The name of a router, in one table or in two: the part handed back, and the companion's answer: 1 named, 0 unnamed, or the refusal.
use Rattle.std.specs.Prelude.{◌≡◌, ◌≢◌, ◌↔◌, ◌||◌, ℕ, ◌+◌, ◌≤◌, ◌<◌, length}
use mathlib.Core.List.{List, [], ◌∷◌, Memᴰ}
use Rattle.std.proofs.Math.Option.{Option, none, some}
use Rattle.rules.specs.Words.{◌=?◌, pick, Line, ◌when◌, All}
use Rattle.rules.specs.Layout.{Name, longest_table}
use Rattle.rules.specs.Table.{says}
use Rattle.rules.specs.Names.{Part, part_bytes, name_in, part_or, empty_part, named, or_else}
use Rattle.rules.specs.Demand1.{IsAccepted}
use Rattle.rules.specs.Answers.{Answer, Answered, Refused, answer, on_tables, bad_router, Case, ◌unless◌, accepts, Exactly, RefusedBy}

abbrev pub name_for : List ℕ → ℕ → Option Name
name_for table i = name_in (says table).names i

-- The name found is the one that the table gives to router i, and none is found exactly where the table gives it none.
pub record NameFound (table : List ℕ) (i : ℕ) : Type 0 where
  pub its_own : (m : Name) → (name_for table i ≡ some m) ↔ (Memᴰ m (says table).names × (m.router ≡ i))
  pub no_other : (name_for table i ≡ none) ↔ All (λ m. m.router ≢ i) (says table).names

-- of every accepted table (proofs/NameQuestions)
abbrev pub NamesAreFound : Type 0
NamesAreFound = (table : List ℕ) → IsAccepted table → (i : ℕ) → NameFound table i

-- a name that is handed back: 1 to 16 bytes within these bytes, which are no longer than the longest table
pub record PartFits (bytes : List ℕ) (part : Part) : Type 0 where
  pub of_a_table : part.table ≤ 1
  pub not_empty : 1 ≤ part.size
  pub not_long : part.size ≤ 16
  pub within : part.place + part.size ≤ length bytes
  pub not_far : length bytes ≤ longest_table

-- ---- in one table

pub record NameInputs : Type 0 where
  pub table : List ℕ
  pub router : ℕ

-- 9: of a table of n routers
abbrev pub name_refusals : ℕ → ℕ → List (Line ℕ)
name_refusals n i = 9 when bad_router n i ∷ []

-- the name, if there is one
abbrev pub name_found : NameInputs → Option Name
name_found q = name_for q.table q.router

unfoldable pub name_answer : NameInputs → Answer ℕ
name_answer q = answer (on_tables (q.table ∷ []) (name_refusals (says q.table).routers q.router)) 0 (named (name_found q))

-- no name, or a refusal: the empty part at the end of the table
unfoldable pub name_part : NameInputs → Part
name_part q = pick ((name_answer q).refusal.number =? 0) (part_or 0 (name_found q) (empty_part 0 q.table)) (empty_part 0 q.table)

-- the table, 9
abbrev pub name_cases : NameInputs → List Case
name_cases q = accepts 0 q.table ∷ 9 unless (q.router < (says q.table).routers) ∷ []

-- what is proved (proofs/NameQuestions): the name of a router is the very bytes inside the table
pub record NameProved (q : NameInputs) : Type 0 where
  pub exactly : Exactly (name_cases q) 0 (named (name_found q)) (name_answer q)
  pub refusals : RefusedBy 0 (9 ∷ []) 0 (name_answer q)
  pub when_refused : Refused (name_answer q) → name_part q ≡ record { table = 0; place = length q.table; size = 0 }
  pub when_unnamed : Answered (name_answer q) → name_found q ≡ none
      → ((name_answer q).values ≡ 0) × (name_part q ≡ record { table = 0; place = length q.table; size = 0 })
  pub when_named : (m : Name) → Answered (name_answer q) → name_found q ≡ some m
      → ((name_answer q).values ≡ 1)
      × (name_part q ≡ record { table = 0; place = m.place; size = length m.bytes })
      × (part_bytes q.table (name_part q) ≡ m.bytes)
  pub fits : (name_answer q).values ≡ 1 → PartFits q.table (name_part q)

-- ---- in two tables

pub record TwoNamesInputs : Type 0 where
  pub old : List ℕ
  pub new : List ℕ
  pub router : ℕ

-- 9: a router must be below both N
abbrev pub two_names_refusals : ℕ → ℕ → ℕ → List (Line ℕ)
two_names_refusals old new i = 9 when (bad_router old i || bad_router new i) ∷ []

-- the name in the new table, and the one in the old
abbrev pub found_in_new : TwoNamesInputs → Option Name
found_in_new q = name_for q.new q.router

abbrev pub found_in_old : TwoNamesInputs → Option Name
found_in_old q = name_for q.old q.router

-- whether there is a name, in the new table or else in the old; 8 is not tested
unfoldable pub two_names_answer : TwoNamesInputs → Answer ℕ
two_names_answer q =
    answer (on_tables (q.old ∷ q.new ∷ []) (two_names_refusals (says q.old).routers (says q.new).routers q.router)) 0
    (named (or_else (found_in_new q) (found_in_old q)))

-- the name in the new table, or else the one in the old, or else the empty part at the end of the new table
unfoldable pub two_names_part : TwoNamesInputs → Part
two_names_part q =
    pick ((two_names_answer q).refusal.number =? 0)
    (part_or 1 (found_in_new q) (part_or 0 (found_in_old q) (empty_part 1 q.new)))
    (empty_part 1 q.new)

-- the table that a part is of: 0 is the old one, 1 the new
abbrev pub table_in : TwoNamesInputs → Part → List ℕ
table_in q part = pick (part.table =? 0) q.old q.new

-- old table, new table, 9
abbrev pub two_names_cases : TwoNamesInputs → List Case
two_names_cases q =
    accepts 0 q.old
    ∷ accepts 1 q.new
    ∷ 9 unless ((q.router < (says q.old).routers) × (q.router < (says q.new).routers))
    ∷ []

-- what is proved (proofs/NameQuestions)
pub record TwoNamesProved (q : TwoNamesInputs) : Type 0 where
  pub exactly : Exactly (two_names_cases q) 0 (named (or_else (found_in_new q) (found_in_old q))) (two_names_answer q)
  pub refusals : RefusedBy 1 (9 ∷ []) 0 (two_names_answer q)
  pub when_refused : Refused (two_names_answer q) → two_names_part q ≡ record { table = 1; place = length q.new; size = 0 }
  pub when_unnamed : Answered (two_names_answer q) → found_in_new q ≡ none → found_in_old q ≡ none
      → ((two_names_answer q).values ≡ 0) × (two_names_part q ≡ record { table = 1; place = length q.new; size = 0 })
  pub when_new : (m : Name) → Answered (two_names_answer q) → found_in_new q ≡ some m
      → ((two_names_answer q).values ≡ 1)
      × (two_names_part q ≡ record { table = 1; place = m.place; size = length m.bytes })
      × (part_bytes q.new (two_names_part q) ≡ m.bytes)
  pub when_old : (m : Name) → Answered (two_names_answer q) → found_in_new q ≡ none → found_in_old q ≡ some m
      → ((two_names_answer q).values ≡ 1)
      × (two_names_part q ≡ record { table = 0; place = m.place; size = length m.bytes })
      × (part_bytes q.old (two_names_part q) ≡ m.bytes)
  pub fits : (two_names_answer q).values ≡ 1 → PartFits (table_in q (two_names_part q)) (two_names_part q)
