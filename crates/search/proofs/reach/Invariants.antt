-- `search::reach` meets its contract.
use Prim.Native.Nat.{ℕ}
use mathlib.Core.List.{List}
use Rattle.search.specs.Steps.{AreSets}
use Rattle.search.proofs.Easing.{Eased}
use Rattle.search.proofs.Carrying.{Carries}
use Rattle.search.proofs.reach.Given as goal

abbrev pub invariant-loop-k : goal.invariant-loop-k
invariant-loop-k g l =
    (p : ℕ) × Eased l.web.near l.web.weights l.m l.initial.costs l.costs l.fallen l.k-iterator p
    × ((sets : List ℕ) → AreSets sets → g.C.Carried.Is l.initial.load sets
    → (after : List ℕ) × Carries l.web.near l.web.weights l.router l.m l.initial.costs sets after p × g.C.Carried.Is l.load after)
