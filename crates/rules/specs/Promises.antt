-- Two answers that a promise allows are equal: what that says, and the laws that give it. They are proved in proofs/Uniqueness.
use Rattle.std.specs.Prelude.{◌≡◌}

-- P allows one answer only
abbrev pub Settles : {A : Type 0} → (A → Type 0) → Type 0
Settles {A} P = (x y : A) → P x → P y → x ≡ y

-- P allows one answer and one content of what is lent beside it
abbrev pub SettlesBoth : {A B : Type 0} → (A → B → Type 0) → Type 0
SettlesBoth {A} {B} P = Settles (λ (both : A × B). P both.0 both.1)

-- each allowed answer is had again from its numbers
abbrev pub HadAgain : {A B : Type 0} → (A → B) → (A → Type 0) → (B → A) → Type 0
HadAgain {A} numbers Own again = (x : A) → Own x → again (numbers x) ≡ x

-- Then the numbers tell all allowed answers apart,
abbrev pub NumbersTellApart : Type 1
NumbersTellApart =
    (A B : Type 0) (numbers : A → B) (Own : A → Type 0) (again : B → A) → HadAgain numbers Own again
    → (x y : A) → Own x → Own y → numbers x ≡ numbers y → x ≡ y

-- and the promise that an answer is allowed and has the numbers of a definition allows one answer.
abbrev pub NumbersSettle : Type 1
NumbersSettle =
    (A B : Type 0) (numbers : A → B) (Own : A → Type 0) (again : B → A) → HadAgain numbers Own again
    → (said : B) → Settles (λ (x : A). (numbers x ≡ said) × Own x)

-- So does the promise of the numbers alone, where every answer is allowed.
abbrev pub EquationsSettle : Type 1
EquationsSettle =
    (A B : Type 0) (numbers : A → B) (again : B → A) → ((x : A) → again (numbers x) ≡ x) → (said : B) → Settles (λ (x : A). numbers x ≡ said)

-- And so does a promise of the numbers and of what a lent output holds.
abbrev pub OutputsSettle : Type 1
OutputsSettle =
    (A B C : Type 0) (numbers : A → B) (Own : A → Type 0) (again : B → A) → HadAgain numbers Own again
    → (said : B) (held : C) → SettlesBoth (λ (x : A) (out : C). (numbers x ≡ said) × Own x × (out ≡ held))

-- an answer and a lent output beside it, each settled
abbrev pub PairsSettle : Type 1
PairsSettle =
    (A B : Type 0) (P : A → Type 0) (Q : B → Type 0) → Settles P → Settles Q → Settles (λ (both : A × B). P both.0 × Q both.1)
