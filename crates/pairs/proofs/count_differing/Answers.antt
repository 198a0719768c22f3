-- `pairs::count_differing` meets its contract. The loop's invariant is the walk along both tables; the measure falls because the pairs in front rise.
-- Assumes nothing.
use mathlib.Core.Path.{refl, ap}
use native.Mathlib.Omega.{arith}
use Rattle.tables.specs.declared.Outline.{Outline}
use Rattle.pairs.proofs.Fronts.{starts, count_small, old_turn, new_turn, both_turn, ends}
use Rattle.pairs.proofs.count_differing.Goals as goal

pub loop-o-init : goal.loop-o-init
loop-o-init c =
    let a = c.args in
    starts _ _ _ _ _ _ a.old.accepted a.new.accepted (ap (λ (t : Outline). t.start) a.old.outlined) (ap (λ (t : Outline). t.start) a.new.outlined) c.front_at-o.ensures c.front_at-n.ensures

pub overflow_add-count : goal.overflow_add-count
overflow_add-count c =
    let w = c.loop-o.invariant in
    omega (arith, count_small _ _ _ _ _ (old_turn _ _ _ _ _ w c.if-o-n.true _ refl).0)

pub loop-o-smaller-then-o-n : goal.loop-o-smaller-then-o-n
loop-o-smaller-then-o-n c =
    let w = c.loop-o.invariant in
    omega (arith, old_turn _ _ _ _ _ w c.if-o-n.true _ c.front_at-o-then-o-n.ensures)

pub loop-o-preserved-then-o-n : goal.loop-o-preserved-then-o-n
loop-o-preserved-then-o-n c =
    let w = c.loop-o.invariant in
    (old_turn _ _ _ _ _ w c.if-o-n.true _ c.front_at-o-then-o-n.ensures).0

pub overflow_add-count-then-n-o : goal.overflow_add-count-then-n-o
overflow_add-count-then-n-o c =
    let w = c.loop-o.invariant in
    omega (arith, count_small _ _ _ _ _ (new_turn _ _ _ _ _ w c.if-n-o.true _ refl).0)

pub loop-o-smaller-then-n-o : goal.loop-o-smaller-then-n-o
loop-o-smaller-then-n-o c =
    let w = c.loop-o.invariant in
    omega (arith, new_turn _ _ _ _ _ w c.if-n-o.true _ c.front_at-n-then-n-o.ensures)

pub loop-o-preserved-then-n-o : goal.loop-o-preserved-then-n-o
loop-o-preserved-then-n-o c =
    let w = c.loop-o.invariant in
    (new_turn _ _ _ _ _ w c.if-n-o.true _ c.front_at-n-then-n-o.ensures).0

pub returns-then-o-eq-NO_PAIR : goal.returns-then-o-eq-NO_PAIR
returns-then-o-eq-NO_PAIR c =
    let w = c.loop-o.invariant in
    ends _ _ _ _ _ w (omega arith) c.if-o-eq-NO_PAIR.true

pub overflow_add-count-else-o-eq-NO_PAIR : goal.overflow_add-count-else-o-eq-NO_PAIR
overflow_add-count-else-o-eq-NO_PAIR c =
    let w = c.loop-o.invariant in
    omega (arith, count_small _ _ _ _ _ (both_turn _ _ _ _ _ w (omega arith) c.if-o-eq-NO_PAIR.false _ c.from-count.ensures _ _ refl refl).0)

pub loop-o-smaller : goal.loop-o-smaller
loop-o-smaller c =
    let w = c.loop-o.invariant in
    omega (
      arith,
      both_turn _ _ _ _ _ w (omega arith) c.if-o-eq-NO_PAIR.false _ c.from-count.ensures _ _
          c.front_at-o-else-o-eq-NO_PAIR.ensures c.front_at-n-else-o-eq-NO_PAIR.ensures,
    )

pub loop-o-preserved : goal.loop-o-preserved
loop-o-preserved c =
    let w = c.loop-o.invariant in
    (both_turn _ _ _ _ _ w (omega arith) c.if-o-eq-NO_PAIR.false _ c.from-count.ensures _ _
    c.front_at-o-else-o-eq-NO_PAIR.ensures c.front_at-n-else-o-eq-NO_PAIR.ensures).0
