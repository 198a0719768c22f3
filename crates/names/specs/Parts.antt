-- The very part of a lent table that is handed back.
use Rattle.std.specs.Prelude.{◌≡◌, List, ℕ, ◌+◌, take, drop}
use Rattle.std.specs.Borrow.{Bor}
use Rattle.rules.specs.Words.{◌=?◌, pick}
use Rattle.rules.specs.Names.{Part}
use Rattle.rules.specs.NameQuestions.{name_part, two_names_part}

-- r is the very part of s that begins at a place and has so many bytes: it holds those bytes, in the same block of memory, so many bytes further on
pub record PartAt (s : Bor (List ℕ)) (place size : ℕ) (r : Bor (List ℕ)) : Type 0 where
  pub bytes : r.now ≡ take size (drop place s.now)
  pub block : r.ref_ptr.0 ≡ s.ref_ptr.0
  pub offset : r.ref_ptr.1 ≡ s.ref_ptr.1 + place

-- r is this part of the one table
abbrev pub IsPart : Bor (List ℕ) → Part → Bor (List ℕ) → Type 0
IsPart s part r = PartAt s part.place part.size r

-- r is this part of one of two tables: table 0 is the old one, 1 the new
abbrev pub IsPartOfTwo : Bor (List ℕ) → Bor (List ℕ) → Part → Bor (List ℕ) → Type 0
IsPartOfTwo old new part r = IsPart (pick (part.table =? 0) old new) part r

-- r is the part that the name of a router is in one table, and in two
abbrev pub GivesName : Bor (List ℕ) → ℕ → Bor (List ℕ) → Type 0
GivesName table router r = IsPart table (name_part (record { table = table.now; router = router })) r

abbrev pub GivesNameOfTwo : Bor (List ℕ) → Bor (List ℕ) → ℕ → Bor (List ℕ) → Type 0
GivesNameOfTwo old new router r = IsPartOfTwo old new (two_names_part (record { old = old.now; new = new.now; router = router })) r
