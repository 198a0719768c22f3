-- The code of an outcome, the answer to the path question, and the trace afterwards, are settled.
-- Assumes nothing.
use mathlib.Core.Path.{◌≡◌, refl, ap}
use Prim.Native.Nat.{ℕ}
use Rattle.rules.specs.Words.{◌=?◌, pick}
use Rattle.rules.specs.PathQuestion.{PathInputs, no_ending, Ending}
use Rattle.rules.specs.Promises.{Settles, SettlesBoth}
use Rattle.rules.proofs.Uniqueness.{value_settled, pairs_settle}
use Rattle.refusals.proofs.Settled.{numbers_settled}
use Rattle.paths.specs.declared.Outcome.{Outcome}
use Rattle.paths.specs.declared.Outcome.TheVariants.{Delivered, Discarded, NoRoute, Lost}
use Rattle.paths.specs.declared.Ending.{Ending as EndingHere}
use Rattle.paths.specs.Following.{outcome_told}
use Rattle.paths.specs.PathAnswers.{code_of, ending_numbers, AnswersPath, Codes}

-- the outcome that has this code; every other number counts as lost
unfoldable pub outcome_of : ℕ → Outcome
outcome_of n = pick (n =? 128) Delivered (pick (n =? 129) Discarded (pick (n =? 130) NoRoute Lost))

pub outcome_again : (o : Outcome) → outcome_of (code_of o) ≡ o
unfolding outcome_of outcome_told
outcome_again Delivered = refl
outcome_again Discarded = refl
outcome_again NoRoute = refl
outcome_again Lost = refl

pub outcome_code_settled : (o : Outcome) → Settles (Codes o)
outcome_code_settled o = value_settled _

-- the ending that has such numbers
ending_from : Ending → EndingHere
ending_from e = record { outcome = outcome_of e.outcome; router = e.router; hops = e.hops }

ending_again : (e : EndingHere) → ending_from (ending_numbers e) ≡ e
unfolding ending_from
ending_again e = ap (λ o. record { outcome = o; router = e.router; hops = e.hops }) (outcome_again e.outcome)

-- the answer, and the trace afterwards
pub path_settled : (q : PathInputs) → SettlesBoth (AnswersPath q)
path_settled q = pairs_settle _ _ _ _ (numbers_settled no_ending ending_numbers ending_from ending_again _) (value_settled _)
