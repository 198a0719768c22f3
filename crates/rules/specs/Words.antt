-- The words that the other files are written in: tests, the first line that applies, lists of numbers, texts.
-- Everywhere: what is marked `abbrev` is a short name for what it says, what is marked `unfoldable` a definition that proofs open by name.
use Rattle.std.specs.Prelude.{◌≢◌, ◌⊎◌, Bool, true, false, ◌&&◌, List, [], ◌∷◌, ◌++◌, ℕ, zero, suc, ◌+◌, ◌<◌, eqb, ltb, leb}
use Prim.Native.String.{String, len, char_at}
use Prim.Native.Char.{code}

-- ---- tests

infix 50 ◌=?◌ ◌<?◌ ◌≤?◌
abbrev pub ◌=?◌ : ℕ → ℕ → Bool
x =? y = eqb x y

abbrev pub ◌<?◌ : ℕ → ℕ → Bool
x <? y = ltb x y

abbrev pub ◌≤?◌ : ℕ → ℕ → Bool
x ≤? y = leb x y

-- a where the test passes, else b
abbrev pub pick {ℓ} : {A : Type ℓ} → Bool → A → A → A
pick true a b = a
pick false a b = b

-- ---- the first line that applies

-- one line of a list of tests: what it gives, and whether it applies
pub record Line (A : Type 0) : Type 0 where
  pub gives : A
  pub applies : Bool

infix 68 ◌when◌
abbrev pub ◌when◌ : {A : Type 0} → A → Bool → Line A
a when t = record { gives = a; applies = t }

-- what the first line that applies gives, and where none does what stands behind `otherwise`
infix 10 first◌otherwise◌
abbrev pub first◌otherwise◌ : {A : Type 0} → List (Line A) → A → A
first [] otherwise a = a
first l ∷ ls otherwise a = pick l.applies l.gives (first ls otherwise a)

-- ---- lists

module _ {A : Type 0} where
  -- every element passes the test
  unfoldable pub every : (A → Bool) → List A → Bool
  every p [] = true
  every p (x ∷ xs) = p x && every p xs

  -- the elements that pass the test, in order
  unfoldable pub those : (A → Bool) → List A → List A
  those p [] = []
  those p (x ∷ xs) = pick (p x) (x ∷ those p xs) (those p xs)

  -- how many elements pass the test
  unfoldable pub tally : (A → Bool) → List A → ℕ
  tally p [] = 0
  tally p (x ∷ xs) = pick (p x) 1 0 + tally p xs

  -- P holds of every element
  abbrev pub All : (A → Type 0) → List A → Type 0
  All P [] = Unit {0}
  All P (x ∷ xs) = P x × All P xs

  -- P holds of some element
  abbrev pub Some : (A → Type 0) → List A → Type 0
  Some P [] = ⊥
  Some P (x ∷ xs) = P x ⊎ Some P xs

-- the numbers 0 to n − 1
unfoldable pub below : ℕ → List ℕ
below zero = []
below (suc n) = below n ++ (n ∷ [])

-- no number stands twice
abbrev pub Distinct : List ℕ → Type 0
Distinct [] = Unit {0}
Distinct (x ∷ xs) = All (λ y. y ≢ x) xs × Distinct xs

-- the numbers stand in strictly rising order
abbrev pub Rising : List ℕ → Type 0
Rising [] = Unit {0}
Rising (x ∷ xs) = All (λ y. x < y) xs × Rising xs

-- ---- texts

-- the codes of m characters from place k on
unfoldable pub text_from : ℕ → String → ℕ → List ℕ
text_from zero s k = []
text_from (suc m) s k = code (char_at s k) ∷ text_from m s (suc k)

-- the bytes of a text in plain characters
abbrev pub text : String → List ℕ
text s = text_from (len s) s 0
