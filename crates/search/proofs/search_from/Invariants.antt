-- `search::search_from` meets its contract. The measure falls because a cost falls, or else a router waits no more.
use Prim.Native.Nat.{ℕ}
use mathlib.Core.Path.{◌≡◌}
use mathlib.Core.List.{List}
use lib.ListN.{replicate}
use Rattle.webs.specs.Webs.{web_weight}
use Rattle.rules.proofs.CostLaws.{Net}
use Rattle.search.proofs.Searching.{Waiting, left_over}
use Rattle.search.proofs.Gathering.{Gathered}
use Rattle.search.proofs.search_from.Given as goal

abbrev pub invariant-loop-waiting : goal.invariant-loop-waiting
invariant-loop-waiting g l =
    Net 64 (web_weight l.web)
    × Waiting (web_weight l.web) l.router l.costs l.waiting
    × ((sets : List ℕ) → sets ≡ replicate 64 0 → g.C.Carried.Is l.initial.load sets
    → (after : List ℕ) × Gathered (web_weight l.web) l.router l.costs l.waiting after × g.C.Carried.Is l.load after)

abbrev pub decreases-loop-waiting : goal.decreases-loop-waiting
decreases-loop-waiting g l = left_over l.costs l.waiting
