-- Each promise of this crate allows one answer: the step is had again from document 01's.
-- Assumes nothing.
use mathlib.Core.Path.{◌≡◌, refl, ap}
use mathlib.Core.List.{List}
use Prim.Native.Nat.{ℕ}
use Rattle.rules.specs.Table.{Step, good, bad}
use Rattle.rules.specs.Promises.{Settles}
use Rattle.rules.proofs.Uniqueness.{value_settled, equations_settle}
use Rattle.refusals.proofs.Told.{reason_of, reason_again}
use Rattle.records.specs.Steps.{Joins, step_of, StepsTo}
use Rattle.records.specs.declared.Kept.{Kept}
use Rattle.records.specs.declared.Step.{Step as StepHere}
use Rattle.records.specs.declared.Step.TheVariants as here

pub joined_settled : (high low : ℕ) → Settles (Joins high low)
joined_settled high low = value_settled _

-- ---- the reading step

step_from : Step → StepHere
step_from (good r end) = here.Record r.tag end
step_from (bad number at) = here.Refused (reason_of number) at

step_again : (bytes : List ℕ) (place : ℕ) (x : StepHere) → step_from (step_of bytes place x) ≡ x
unfolding step_from step_of
step_again bytes place (here.Record tag end) = refl
step_again bytes place (here.Refused reason at) = ap (λ r. here.Refused r at) (reason_again reason)

pub next_record_settled : (bytes : List ℕ) (place : ℕ) (kept : Kept) → Settles (StepsTo bytes place kept)
next_record_settled bytes place kept = equations_settle _ _ (step_of bytes place) step_from (step_again bytes place) _
