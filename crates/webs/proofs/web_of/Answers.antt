-- `webs::web_of` meets its contract: at each turn the web is that of the links before.
-- Assumes nothing.
use mathlib.Core.Path.{refl, ◌∙◌, ap}
use native.Mathlib.Nat.{le_antisymm}
use Rattle.webs.specs.Webs.{web_at}
use Rattle.webs.proofs.Laying.{web_so_far, none_laid, link_laid, no_link_laid}
use Rattle.webs.proofs.web_of.Goals as goal
use Rattle.webs.proofs.web_of.Goals.{in-Some, in_default}

pub loop-i-init : goal.loop-i-init
loop-i-init c = none_laid _ _ _ c.no_sets.ensures refl

pub loop-i-preserved : goal.loop-i-preserved
loop-i-preserved c = elim c.match-link_by_number.branch [
  | in-Some w ↦ w.web-is ∙ link_laid _ _ _ _ c.loop-i.invariant _ w.in-Some.ensures _ w.lay.ensures
  | in_default w ↦ w.web-is ∙ no_link_laid _ _ _ _ c.loop-i.invariant w.in_default.ensures
]

pub returns : goal.returns
unfolding web_at
returns c = c.loop-i.invariant ∙ ap (web_so_far _ _) (le_antisymm c.loop-i.auto.i-end c.loop-i-test.false)
