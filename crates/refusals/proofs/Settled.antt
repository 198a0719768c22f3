-- Each promise of this crate allows one answer. So does a promise of an answer's numbers: its values are had again from them, and its refusal is.
-- Assumes nothing.
use mathlib.Core.Path.{◌≡◌, ◌∙◌, ap}
use Prim.Native.Nat.{ℕ}
use Rattle.std.specs.Prelude.{Result, Ok, Err, IfOk}
use Rattle.rules.specs.Words.{◌=?◌, pick}
use Rattle.rules.specs.Answers.{Answer}
use Rattle.rules.specs.Promises.{Settles}
use Rattle.rules.proofs.Uniqueness.{numbers_settle, refused_again, value_settled}
use Rattle.refusals.specs.declared.Reason.{Reason}
use Rattle.refusals.specs.declared.Which.{Which}
use Rattle.refusals.specs.declared.Refusal.{Refusal}
use Rattle.refusals.specs.Refusals.{number_of, table_number, refused_at, in_new, answer_told}
use Rattle.refusals.proofs.Told.{some_number, refusal_of, refusal_again}

-- ---- the functions of this crate

pub number_settled : (reason : Reason) → Settles (λ (number : ℕ). number ≡ number_of reason)
number_settled reason = value_settled _

pub at_settled : (reason : Reason) (place : ℕ) → Settles (λ (r : Refusal). r ≡ refused_at reason place)
at_settled reason place = value_settled _

pub which_settled : (which : Which) → Settles (λ (number : ℕ). number ≡ table_number which)
which_settled which = value_settled _

pub in_new_settled : (r : Refusal) → Settles (λ (s : Refusal). s ≡ in_new r)
in_new_settled r = value_settled _

-- ---- an answer from its numbers

module _ {T A : Type 0} (zeros : A) (values : T → A) (again : A → T) where
  answer_of : Answer A → Result T Refusal
  answer_of a = pick (a.refusal.number =? 0) (Ok (again a.values)) (Err (refusal_of a.refusal))

  refused_told : (r : Refusal) → answer_of (answer_told zeros values (Err r)) ≡ Err r
  unfolding answer_of answer_told
  refused_told r = refused_again (number_of r.reason) _ _ (some_number r.reason) ∙ ap Err (refusal_again r)

  module _ (Own : T → Type 0) (h : (x : T) → Own x → again (values x) ≡ x) where
    answer_again : (r : Result T Refusal) → IfOk r Own → answer_of (answer_told zeros values r) ≡ r
    unfolding answer_of answer_told
    answer_again (Ok x) own = ap Ok (h x own)
    answer_again (Err r) own = refused_told r

module _ {T A : Type 0} (zeros : A) (values : T → A) (Own : T → Type 0) (again : A → T) (h : (x : T) → Own x → again (values x) ≡ x) where
  pub answer_settled : (said : Answer A) → Settles (λ (r : Result T Refusal). (answer_told zeros values r ≡ said) × IfOk r Own)
  answer_settled said =
      numbers_settle (Result T Refusal) (Answer A) (answer_told zeros values) (λ r. IfOk r Own) (answer_of zeros values again)
      (answer_again zeros values again Own h) said

always : {T : Type 0} (r : Result T Refusal) → IfOk r (λ x. Unit {0})
always (Ok x) = tt
always (Err r) = tt

module _ {T A : Type 0} (zeros : A) (values : T → A) (again : A → T) (h : (x : T) → again (values x) ≡ x) where
  pub numbers_settled : (said : Answer A) → Settles (λ (r : Result T Refusal). answer_told zeros values r ≡ said)
  numbers_settled said x y p q =
      answer_settled zeros values (λ x. Unit {0}) again (λ x own. h x) said x y (p, always x) (q, always y)
