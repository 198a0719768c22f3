-- The promise of this crate allows one answer: two webs that it allows are equal.
-- Assumes nothing.
use mathlib.Core.List.{List}
use Prim.Native.Nat.{ℕ}
use Rattle.rules.specs.Promises.{Settles}
use Rattle.rules.proofs.Uniqueness.{value_settled}
use Rattle.tables.specs.declared.Outline.{Outline}
use Rattle.webs.specs.Webs.{LaysOut}

pub web_of_settled : (bytes : List ℕ) (t : Outline) → Settles (LaysOut bytes t)
web_of_settled bytes t = value_settled _
