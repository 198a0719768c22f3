-- Numbers from which each answer is had again tell all answers apart, and a promise of them allows one.
-- Assumes nothing.
use mathlib.Core.Path.{◌≡◌, refl, sym, ◌∙◌, ap}
use mathlib.Core.Logic.{◌≢◌}
use Prim.Native.Nat.{ℕ}
use borrow.Author.Tests.{ne_eqb}
use Rattle.rules.specs.Words.{◌=?◌, pick}
use Rattle.rules.specs.Promises.{Settles, NumbersTellApart, NumbersSettle, OutputsSettle, EquationsSettle, PairsSettle}
use Rattle.rules.proofs.Basics.{pick_f}

pub numbers_tell_apart : NumbersTellApart
numbers_tell_apart A B numbers Own again had x y own own' e = sym (had x own) ∙ ap again e ∙ had y own'

pub numbers_settle : NumbersSettle
numbers_settle A B numbers Own again had said x y p q = numbers_tell_apart A B numbers Own again had x y p.1 q.1 (p.0 ∙ sym q.0)

pub outputs_settle : OutputsSettle
outputs_settle A B C numbers Own again had said held x y p q = λ i. (
  numbers_settle A B numbers Own again had said x.0 y.0 (p.0, p.1) (q.0, q.1) i,
  (p.2 ∙ sym q.2) i,
)

pub equations_settle : EquationsSettle
equations_settle A B numbers again had said x y p q =
    numbers_tell_apart A B numbers (λ x. Unit {0}) again (λ x own. had x) x y tt tt (p ∙ sym q)

-- a refusal is had again, since its number is not 0
pub refused_again : {A : Type 0} (number : ℕ) (given refused : A) → number ≢ 0 → pick (number =? 0) given refused ≡ refused
refused_again number given refused own = pick_f _ _ _ (ne_eqb number 0 own)

-- the answer is what is said, itself
pub value_settled : {A : Type 0} (said : A) → Settles (λ (x : A). x ≡ said)
value_settled {A} said = equations_settle A A (λ x. x) (λ x. x) (λ x. refl) said

pub pairs_settle : PairsSettle
pairs_settle A B P Q s t x y p q = λ i. (s x.0 y.0 p.0 q.0 i, t x.1 y.1 p.1 q.1 i)
