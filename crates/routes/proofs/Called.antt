-- An array that is made by calls, one for each place: the values of a function.
-- Assumes nothing.
use mathlib.Core.Path.{◌≡◌, sym, ◌∙◌, subst}
use mathlib.Core.List.{List, map}
use Prim.Native.Nat.{ℕ, zero, suc, ◌+◌, ◌≤◌, ◌<◌}
use native.Mathlib.Decide.{ℕ_discrete}
use native.Mathlib.Omega.{arith}
use denote.Param.Members.{Mut, Called}
use lib.ListN.{get_or}
use lib.Seq.{ext_get_or}
use Rattle.std.specs.Array.{IsFromFnResult, IsFromFnResultFrom}
use Rattle.rules.specs.Words.{below}
use Rattle.rules.proofs.Basics.{length_values, value_at}

-- each call answers a function's value and leaves what is called as it was
module _ {F : Type 0} {g : Mut F (ℕ × Unit {0}) ℕ} {f : F} (l : List ℕ) (v : ℕ → ℕ)
    (h : (k y : ℕ) (q : F) → Called g f (k, tt) y q → (y ≡ v k) × (q ≡ f)) where
  each_value : (n i : ℕ) → IsFromFnResultFrom g f l i n → (k : ℕ) → i ≤ k → k < i + n → get_or l k 0 ≡ v k
  each_value zero i e k a b = absurd (omega arith)
  each_value (suc n) i (q, y, at, called, rest) k a b =
      go (ℕ_discrete k i) (each_value n (i + 1) (subst (λ q. IsFromFnResultFrom g q l (i + 1) n) (h i y q called).1 rest) k)
    where
      go : Dec (k ≡ i) → (i + 1 ≤ k → k < i + 1 + n → get_or l k 0 ≡ v k) → get_or l k 0 ≡ v k
      go (yes e) ih = rw e (at.1 0 ∙ (h i y q called).0)
      go (no e) ih = ih (omega arith) (omega arith)

  pub values_called : (n : ℕ) → IsFromFnResult g f l n → l ≡ map v (below n)
  values_called n made =
      ext_get_or 0 l (map v (below n)) (made.long ∙ sym (length_values v n))
      (λ k b. let m : k < n = omega (arith, made.long) in each_value n 0 made.each k (omega arith) (omega arith) ∙ sym (value_at v n k 0 m))
