-- `tables::judge` meets its contract. The loop keeps what judging from the place on tells of the whole; each record ends further on.
-- Assumes nothing.
use mathlib.Core.Path.{◌∙◌, ap}
use Prim.Native.Nat.{◌+◌, ◌≤◌}
use lib.ListN.{length}
use native.Mathlib.Omega.{arith}
use Rattle.tables.proofs.Turns.{found, found_inside, found_length, found_few, told_from, told_first, told_refused, told_ended, told_next}
use Rattle.tables.proofs.judge.Goals as goal
use Rattle.tables.proofs.judge.Goals.{In-Record}

-- where the step's record ends
inside : (c : In-Record) → (c.loop-tag.place + 3 ≤ c.in-Record.end) × (c.in-Record.end ≤ length c.args.table.now)
inside c = found_inside _ _ _ _ _ (found _ _ _ _ _ _ c.in-Record.is c.next_record-step.ensures)

pub loop-tag-init : goal.loop-tag-init
loop-tag-init c = grind (arith, told_first)

pub returns-in_default : goal.returns-in_default
returns-in_default c = told_refused _ _ _ _ _ c.refusal_of.ensures c.next_record-step.ensures ∙ c.loop-tag.invariant.1

pub returns-then-tag-eq-END : goal.returns-then-tag-eq-END
returns-then-tag-eq-END c = told_ended _ _ _ _ _ (found _ _ _ _ _ _ c.in-Record.is c.next_record-step.ensures) c.if-tag-eq-END.true ∙ c.loop-tag.invariant.1

pub overflow_add-place : goal.overflow_add-place
overflow_add-place c = omega (arith, inside (goal.at.overflow_add-place c).In-Record)

pub slice_bounds-kept_behind-count : goal.slice_bounds-kept_behind-count
slice_bounds-kept_behind-count c = omega (arith, inside (goal.at.slice_bounds-kept_behind-count c).In-Record)

pub slice_bounds-kept_behind-start : goal.slice_bounds-kept_behind-start
slice_bounds-kept_behind-start c = omega (arith, inside (goal.at.slice_bounds-kept_behind-start c).In-Record)

pub slice_bounds-kept_behind-end : goal.slice_bounds-kept_behind-end
slice_bounds-kept_behind-end c = omega (arith, inside (goal.at.slice_bounds-kept_behind-end c).In-Record)

pub kept_behind-kept-requires : goal.kept_behind-kept-requires
kept_behind-kept-requires c = (found_length _ _ _ _ _ (found _ _ _ _ _ _ c.in-Record.is c.next_record-step.ensures), omega (arith, c.loop-tag.invariant.0))

pub loop-tag-smaller : goal.loop-tag-smaller
loop-tag-smaller c = omega (arith, inside (goal.at.loop-tag-smaller c).In-Record)

pub loop-tag-preserved : goal.loop-tag-preserved
loop-tag-preserved c =
    let inv = c.loop-tag.invariant in (
      omega (arith, found_few _ _ _ _ _ (found _ _ _ _ _ _ c.in-Record.is c.next_record-step.ensures) inv.0, ap (λ k. k.links) c.kept_behind-kept.ensures),
      ap (told_from _ _) c.kept_behind-kept.ensures ∙ told_next _ _ _ _ _ (found _ _ _ _ _ _ c.in-Record.is c.next_record-step.ensures) c.if-tag-eq-END.false ∙ inv.1,
    )
