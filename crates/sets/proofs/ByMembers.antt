-- Sets that are known by their members: none, one router, one more member, and the set of a test.
-- Assumes nothing.
use mathlib.Core.Path.{◌≡◌, refl, sym, ◌∙◌, ap, ap₂}
use mathlib.Core.Logic.{◌≢◌}
use mathlib.Core.Bool.{Bool, true, false, ◌||◌, or-true, or-false, false≢true}
use Prim.Native.Nat.{ℕ, zero, suc, ◌-◌, ◌*◌, ◌/◌, ◌%◌, ◌^◌, ◌<◌}
use native.Mathlib.Nat.{one-mul, mod-eq_of_lt}
use native.Mathlib.Decide.{ℕ_discrete}
use native.Mathlib.Omega.{arith}
use lib.Bits.{bit_or, or_lt}
use lib.Pow.{pow-lt, shl_exact, shl-shr}
use Rattle.rules.specs.NextHops.{has, set_of}
use Rattle.rules.proofs.Sets.{set_below, set_has, has_all, has_below}
use Rattle.sets.proofs.Bits.{others_stay, has_joined}

-- no router is in the empty set
pub nobody : (k : ℕ) → has 0 k ≡ false
nobody k = has_below 0 0 k (omega arith) (omega arith)

-- ---- the set of one router

-- as the code makes it
pub one_bit : (k : ℕ) → k < 64 → (1 * 2 ^ k) % 18446744073709551616 ≡ 2 ^ k
one_bit k h = shl_exact 1 k 64 (omega arith) (omega arith) ∙ one-mul (2 ^ k)

pub own_bit : (k : ℕ) → has (2 ^ k) k ≡ true
unfolding has
own_bit k =
    let e : 2 ^ k / 2 ^ k ≡ 1 = rw one-mul at (shl-shr 1 k) in
    rw e

no_other_bit : (k j : ℕ) → j ≢ k → has (2 ^ k) j ≡ false
no_other_bit k j a =
    let z : 2 ^ k - 2 ^ k ≡ 0 = omega arith in
    sym (others_stay k (2 ^ k) j (own_bit k) a) ∙ ap (λ s. has s j) z ∙ nobody j

pub only_bit : (k j : ℕ) → has (2 ^ k) j ≡ true → j ≡ k
only_bit k j e = go (ℕ_discrete j k)
  where
    go : Dec (j ≡ k) → j ≡ k
    go (yes q) = q
    go (no a) = absurd (false≢true (sym (no_other_bit k j a) ∙ e))

-- ---- the set of a test

-- tests that agree below n make the same set
pub set_same : (p q : ℕ → Bool) (n : ℕ) → ((k : ℕ) → k < n → p k ≡ q k) → set_of p n ≡ set_of q n
unfolding set_of
set_same p q zero h = refl
set_same p q (suc n) h = rw (h n (omega arith), set_same p q n (λ k l. h k (omega arith)))

-- a set is that of a test which its members, and no other routers, pass
pub set_by : (p : ℕ → Bool) (n set : ℕ) → set < 2 ^ n → ((k : ℕ) → k < n → has set k ≡ p k) → set ≡ set_of p n
set_by p n set b h = sym (has_all set n ∙ mod-eq_of_lt b) ∙ set_same (has set) p n h

-- a set with router b besides
pub with_member : (p q : ℕ → Bool) (n b : ℕ) → b < n → q b ≡ true → ((k : ℕ) → k ≢ b → q k ≡ p k) → bit_or (set_of p n) (2 ^ b) ≡ set_of q n
with_member p q n b l here there =
    set_by q n (bit_or (set_of p n) (2 ^ b)) (or_lt n (set_of p n) (2 ^ b) (set_below p n) (pow-lt l))
    (λ k m. has_joined k (set_of p n) (2 ^ b) ∙ go k m (ℕ_discrete k b))
  where
    go : (k : ℕ) → k < n → Dec (k ≡ b) → (has (set_of p n) k || has (2 ^ b) k) ≡ q k
    go k m (yes e) = rw e (ap (λ t. has (set_of p n) b || t) (own_bit b) ∙ or-true (has (set_of p n) b) ∙ sym here)
    go k m (no a) = ap₂ (λ s t. s || t) (set_has p n k m) (no_other_bit b k a) ∙ or-false (p k) ∙ sym (there k a)
