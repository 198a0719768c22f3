-- A list of tests and a list of cases: the first test that passes gives the number of the first case that applies. And tests that fail exactly where
-- something holds.
-- Assumes nothing.
use mathlib.Core.Path.{◌≡◌, refl, sym, ◌∙◌}
use mathlib.Core.Logic.{◌⊎◌, inl, inr, ◌↔◌}
use mathlib.Core.Bool.{Bool, true, false, ◌&&◌, not, false≢true}
use mathlib.Core.List.{List, [], ◌∷◌}
use Prim.Native.Nat.{ℕ, ◌≤◌, ◌<◌}
use lib.Dec.{ltb, leb}
use borrow.Author.Tests.{ltb-false, leb-false, le-ltb, lt-leb}
use Rattle.rules.specs.Words.{pick, every, Line, ◌when◌, first◌otherwise◌, Some}
use Rattle.rules.specs.Table.{Step, bad}
use Rattle.rules.specs.ListedCases.{Given, FirstGiven, ◌given_if◌, NoneGiven}

-- ---- the first line that applies, and the first case

-- each line gives its case's number at the place, and applies exactly where the case does, if none before it does
pub data Tests (place : ℕ) : List (Line Step) → List Given → Type 1 where
  done : Tests place [] []
  test : {number : ℕ} {t : Bool} {P : Type 0} {ls : List (Line Step)} {cs : List Given} → ((t ≡ true) ↔ P) → (¬ P → Tests place ls cs)
      → Tests place (bad number place when t ∷ ls) (number given_if P ∷ cs)

-- what such lines give: the first case's number at the place, or the good record where no case applies
pub data Tested (place : ℕ) (cases : List Given) (other : Step) : Step → Type 0 where
  by_case : (number : ℕ) → FirstGiven cases number → Tested place cases other (bad number place)
  by_none : NoneGiven cases → Tested place cases other other

pub tested : {place : ℕ} {lines : List (Line Step)} {cases : List Given} (other : Step) → Tests place lines cases
    → Tested place cases other (first lines otherwise other)
tested other done = by_none tt
tested {place} other (test {number = number} {t = t} {P = P} {ls = ls} {cs = cs} is more) = go t refl (λ n. tested other (more n))
  where
    later : ¬ P → {s : Step} → Tested place cs other s → Tested place (number given_if P ∷ cs) other s
    later n (by_case number f) = by_case number (inr (n, f))
    later n (by_none f) = by_none (n, f)

    go : (b : Bool) → t ≡ b → (¬ P → Tested place cs other (first ls otherwise other))
        → Tested place (number given_if P ∷ cs) other (pick b (bad number place) (first ls otherwise other))
    go true e ih = by_case number (inl (is.0 e, refl))
    go false e ih =
        let n : ¬ P = λ h. false≢true (sym e ∙ is.1 h) in
        later n (ih n)

-- one number only is the first
pub one_first : (cases : List Given) (m n : ℕ) → FirstGiven cases m → FirstGiven cases n → m ≡ n
one_first [] m n f g = absurd f
one_first (c ∷ cs) m n (inl (a, p)) (inl (b, q)) = p ∙ sym q
one_first (c ∷ cs) m n (inl (a, p)) (inr (b, q)) = absurd (b a)
one_first (c ∷ cs) m n (inr (a, p)) (inl (b, q)) = absurd (a b)
one_first (c ∷ cs) m n (inr (a, p)) (inr (b, q)) = one_first cs m n p q

pub none_first : (cases : List Given) (n : ℕ) → NoneGiven cases → ¬ FirstGiven cases n
none_first [] n f g = g
none_first (c ∷ cs) n f (inl (b, q)) = f.0 b
none_first (c ∷ cs) n f (inr (b, q)) = none_first cs n f.1 q

-- ---- tests that fail exactly where P holds

abbrev pub Fails : Bool → Type 0 → Type 0
Fails t P = (t ≡ false) ↔ P

pub fails_lt : (x y : ℕ) → Fails (ltb x y) (y ≤ x)
fails_lt x y = (ltb-false x y, le-ltb x y)

pub fails_le : (x y : ℕ) → Fails (leb x y) (y < x)
fails_le x y = (leb-false x y, lt-leb x y)

pub fails_and : {P Q : Type 0} (s t : Bool) → Fails s P → Fails t Q → Fails (s && t) (P ⊎ Q)
fails_and {P} {Q} true t f g = (λ e. inr (g.0 e), go)
  where
    go : P ⊎ Q → t ≡ false
    go (inl p) = absurd (false≢true (sym (f.1 p)))
    go (inr q) = g.1 q
fails_and false t f g = (λ e. inl (f.0 refl), λ h. refl)

pub fails_every : {A : Type 0} {P : A → Type 0} (p : A → Bool) → ((x : A) → Fails (p x) (P x)) → (xs : List A) → Fails (every p xs) (Some P xs)
unfolding every
fails_every p f [] = (λ e. absurd (false≢true (sym e)), λ h. absurd h)
fails_every p f (x ∷ xs) = fails_and (p x) (every p xs) (f x) (fails_every p f xs)

-- the opposite of such a test passes exactly where P holds
pub not_fails : {P : Type 0} (t : Bool) → Fails t P → (not t ≡ true) ↔ P
not_fails true f = (λ e. absurd (false≢true e), λ p. absurd (false≢true (sym (f.1 p))))
not_fails false f = (λ e. f.0 refl, λ p. refl)
