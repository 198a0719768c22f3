-- The contents of a record, which stand behind its header.
-- Assumes nothing.
use mathlib.Core.Path.{◌≡◌, ap₂}
use mathlib.Core.List.{List}
use Prim.Native.Nat.{ℕ, ◌+◌, ◌-◌}
use native.Mathlib.Omega.{arith}
use lib.ListN.{take, drop}
use lib.Seq.{drop-drop}

pub contents_there : (bytes : List ℕ) (place size : ℕ) → take size (drop 3 (drop place bytes)) ≡ take (place + 3 + size - (place + 3)) (drop (place + 3) bytes)
contents_there bytes place size = ap₂ (λ (n : ℕ) (l : List ℕ). take n l) (omega arith) (drop-drop 3 place bytes)
