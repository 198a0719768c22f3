-- The name of a router, handed back as the very bytes inside the caller's table: which table, the place of the first byte, and how many bytes.
use Rattle.std.specs.Prelude.{List, [], ◌∷◌, ℕ, length, take, drop}
use Rattle.std.proofs.Math.Option.{Option, none, some}
use Rattle.rules.specs.Words.{◌=?◌, pick}
use Rattle.rules.specs.Layout.{Name}

-- a part of one of the lent tables: 0 for the old or only one, 1 for the new
pub record Part : Type 0 where
  pub table : ℕ
  pub place : ℕ
  pub size : ℕ

-- the bytes that a part of a table holds
abbrev pub part_bytes : List ℕ → Part → List ℕ
part_bytes bytes part = take part.size (drop part.place bytes)

-- the name of a router, if it has one
unfoldable pub name_in : List Name → ℕ → Option Name
name_in [] router = none
name_in (m ∷ ms) router = pick (m.router =? router) (some m) (name_in ms router)

-- the part that a name is, and the other part where there is none
abbrev pub part_or : ℕ → Option Name → Part → Part
part_or which (some m) other = record { table = which; place = m.place; size = length m.bytes }
part_or which none other = other

-- the empty part at the end of a table
abbrev pub empty_part : ℕ → List ℕ → Part
empty_part which bytes = record { table = which; place = length bytes; size = 0 }

-- 1 where there is a name, else 0
abbrev pub named : Option Name → ℕ
named (some m) = 1
named none = 0

-- the first of two names, or else the second
abbrev pub or_else : Option Name → Option Name → Option Name
or_else (some m) other = some m
or_else none other = other
