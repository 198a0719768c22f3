-- `search::nearest` meets its contract.
use Prim.Native.Nat.{ℕ}
use Rattle.search.proofs.Keys.{Least}
use Rattle.search.proofs.nearest.Given as goal

abbrev pub invariant-loop-k : goal.invariant-loop-k
invariant-loop-k l = (p : ℕ) × Least l.costs l.waiting l.k-iterator l.least p
