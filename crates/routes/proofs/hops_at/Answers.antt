-- `routes::hops_at` meets its contract: a walk over the routers that it is linked to.
-- Assumes nothing.
use Prim.Native.Nat.{◌<◌}
use native.Mathlib.Omega.{arith}
use borrow.Author.Rules.{rules}
use Rattle.routes.proofs.Hops.{starts, router, fits, onward, ends}
use Rattle.routes.proofs.hops_at.Goals as goal
use Rattle.routes.proofs.hops_at.Goals.{In-Some}

-- the router that a link leads to
linked : (c : In-Some) → c.in-Some.k < 64
linked c = router _ _ _ _ _ _ c.loop-k.invariant _ _ c.in-Some.ensures.steps

pub loop-k-init : goal.loop-k-init
loop-k-init c = starts _ _ _ _ _ (omega arith) (search rules)

pub overflow_add-i : goal.overflow_add-i
overflow_add-i c = omega (arith, linked (goal.at.overflow_add-i c).In-Some)

pub offset_bounds-web-i-in-loop-k : goal.offset_bounds-web-i-in-loop-k
offset_bounds-web-i-in-loop-k c = omega (arith, linked (goal.at.offset_bounds-web-i-in-loop-k c).In-Some)

pub bounds-web-i-in-loop-k : goal.bounds-web-i-in-loop-k
bounds-web-i-in-loop-k c = omega (arith, linked (goal.at.bounds-web-i-in-loop-k c).In-Some)

pub offset_bounds-costs-k : goal.offset_bounds-costs-k
offset_bounds-costs-k c = omega (arith, linked (goal.at.offset_bounds-costs-k c).In-Some)

pub bounds-costs-k : goal.bounds-costs-k
bounds-costs-k c = linked (goal.at.bounds-costs-k c).In-Some

pub leads-set-requires : goal.leads-set-requires
leads-set-requires c = linked (goal.at.leads-set-requires c).In-Some

pub overflow_add-set : goal.overflow_add-set
overflow_add-set c = omega (arith, fits _ _ _ _ _ _ c.loop-k.invariant _ _ c.in-Some.ensures.steps (search rules) c.requires _ c.leads-set.ensures)

pub loop-k-preserved : goal.loop-k-preserved
loop-k-preserved c = onward _ _ _ _ _ _ c.loop-k.invariant _ _ c.in-Some.ensures.steps (search rules) c.requires _ c.leads-set.ensures

pub returns : goal.returns
returns c = ends _ _ _ _ _ _ c.loop-k.invariant (search rules)
