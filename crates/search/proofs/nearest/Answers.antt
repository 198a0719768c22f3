-- `search::nearest` meets its contract.
-- Assumes nothing.
use mathlib.Core.Path.{◌∙◌}
use native.Mathlib.Omega.{arith}
use borrow.Author.Rules.{rules}
use Rattle.search.proofs.Arrays.{are_costs}
use Rattle.search.proofs.Keys.{none_passed, next_key, one_passed, all_passed}
use Rattle.search.proofs.nearest.Goals as goal

pub loop-k-init : goal.loop-k-init
loop-k-init c = (0, none_passed _ _ _ (search rules) (c.into_iter-k-iterator.ensures.into_iter_gives ∙ c.members-k-items.ensures))

pub offset_bounds-costs-k : goal.offset_bounds-costs-k
offset_bounds-costs-k c = omega (arith, (next_key _ _ _ _ _ c.loop-k.invariant.1 _ _ c.in-Some.ensures.steps).router)

pub bounds-costs-k : goal.bounds-costs-k
bounds-costs-k c = (next_key _ _ _ _ _ c.loop-k.invariant.1 _ _ c.in-Some.ensures.steps).router

pub loop-k-preserved : goal.loop-k-preserved
loop-k-preserved c =
    let w = c.loop-k.invariant.1 in
    (_, one_passed _ _ _ _ _ w _ _ _ c.min-least.ensures (next_key _ _ _ _ _ w _ _ c.in-Some.ensures.steps))

pub returns : goal.returns
returns c = all_passed _ _ _ _ _ c.loop-k.invariant.1 (are_costs _ c.told-costs c.fits-costs) c.requires (search rules) c.in-None.ensures.steps.0
