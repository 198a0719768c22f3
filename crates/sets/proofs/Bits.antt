-- Sets as numbers, changed: a member taken out, two sets joined, the lowest member taken out by `set & (set - 1)`.
-- Assumes nothing.
use mathlib.Core.Path.{◌≡◌, refl, sym, ◌∙◌, ap}
use mathlib.Core.Logic.{◌≢◌}
use mathlib.Core.Bool.{Bool, true, false, ◌||◌, false≢true}
use Prim.Native.Nat.{ℕ, zero, suc, ◌+◌, ◌-◌, ◌/◌, ◌%◌, ◌^◌, ◌≤◌, ◌<◌, max}
use native.Mathlib.Nat.{pow-suc}
use native.Mathlib.Omega.{arith}
use lib.Dec.{eqb}
use lib.Bits.{bit_and, bit_or, and_step, or_step, or_shr, and_self, and_mask}
use lib.Count as C
use lib.Count.{count_trailing_zeros}
use Rattle.rules.specs.Words.{pick}
use Rattle.rules.specs.NextHops.{has}
use Rattle.rules.proofs.Sets.{half, lowest_digit}

-- a member is a digit 1, any other router a digit 0
digit : (set : ℕ) (t : Bool) → has set 0 ≡ t → set % 2 ≡ pick t 1 0
digit set t e = go (set % 2) refl t (sym (lowest_digit set) ∙ e)
  where
    go : (d : ℕ) → set % 2 ≡ d → (t : Bool) → eqb d 1 ≡ t → d ≡ pick t 1 0
    go zero q true e = absurd (false≢true e)
    go zero q false e = refl
    go (suc zero) q true e = refl
    go (suc zero) q false e = absurd (false≢true (sym e))
    go (suc (suc d)) q t e = absurd (omega arith)

-- a set with member k is not below 2 ^ k
pub member_weight : (k set : ℕ) → has set k ≡ true → 2 ^ k ≤ set
member_weight zero set e = omega (arith, digit set true e)
member_weight (suc k) set e = omega (arith, pow-suc 2 k, member_weight k (set / 2) (sym (half set k) ∙ e))

-- ---- a member taken out

-- half of it, and its lowest digit
less_half : (k set : ℕ) → 2 ^ suc k ≤ set → ((set - 2 ^ suc k) / 2 ≡ set / 2 - 2 ^ k) × ((set - 2 ^ suc k) % 2 ≡ set % 2)
less_half k set h = (omega (arith, pow-suc 2 k), omega (arith, pow-suc 2 k))

pub taken_out : (k set : ℕ) → has set k ≡ true → has (set - 2 ^ k) k ≡ false
taken_out zero set e =
    let d : (set - 1) % 2 ≡ 0 = omega (arith, digit set true e) in
    lowest_digit (set - 1) ∙ ap (λ n. eqb n 1) d
taken_out (suc k) set e =
    half (set - 2 ^ suc k) k
    ∙ ap (λ n. has n k) (less_half k set (member_weight (suc k) set e)).0
    ∙ taken_out k (set / 2) (sym (half set k) ∙ e)

pub others_stay : (k set j : ℕ) → has set k ≡ true → j ≢ k → has (set - 2 ^ k) j ≡ has set j
others_stay zero set zero e a = absurd (a refl)
others_stay zero set (suc j) e a =
    let h : (set - 1) / 2 ≡ set / 2 = omega (arith, digit set true e) in
    half (set - 1) j ∙ ap (λ n. has n j) h ∙ sym (half set j)
others_stay (suc k) set zero e a =
    lowest_digit (set - 2 ^ suc k)
    ∙ ap (λ n. eqb n 1) (less_half k set (member_weight (suc k) set e)).1
    ∙ sym (lowest_digit set)
others_stay (suc k) set (suc j) e a =
    half (set - 2 ^ suc k) j
    ∙ ap (λ n. has n j) (less_half k set (member_weight (suc k) set e)).0
    ∙ others_stay k (set / 2) j (sym (half set k) ∙ e) (λ q. a (ap suc q))
    ∙ sym (half set j)

-- ---- two sets joined

-- two lowest digits
digits : (x y : ℕ) → eqb (bit_or x y % 2) 1 ≡ (eqb (x % 2) 1 || eqb (y % 2) 1)
digits x y = go (x % 2) (y % 2) refl refl
  where
    low : (c d : ℕ) → c < 2 → d < 2 → eqb (max c d) 1 ≡ (eqb c 1 || eqb d 1)
    low zero zero p q = refl
    low zero (suc zero) p q = refl
    low (suc zero) zero p q = refl
    low (suc zero) (suc zero) p q = refl
    low (suc (suc c)) d p q = absurd (omega arith)
    low zero (suc (suc d)) p q = absurd (omega arith)
    low (suc zero) (suc (suc d)) p q = absurd (omega arith)

    go : (c d : ℕ) → x % 2 ≡ c → y % 2 ≡ d → eqb (bit_or x y % 2) 1 ≡ (eqb c 1 || eqb d 1)
    go c d p q =
        let o : bit_or x y % 2 ≡ max c d = omega (arith, or_step x y) in
        ap (λ n. eqb n 1) o ∙ low c d (omega arith) (omega arith)

pub has_joined : (k a b : ℕ) → has (bit_or a b) k ≡ (has a k || has b k)
unfolding has
has_joined k a b = ap (λ n. eqb (n % 2) 1) (or_shr a b k) ∙ digits (a / 2 ^ k) (b / 2 ^ k)

-- ---- the lowest member taken out

pub lowest_out : (m set : ℕ) → 0 < set → set < 2 ^ m → bit_and set (set - 1) + 2 ^ count_trailing_zeros m set ≡ set
unfolding count_trailing_zeros
lowest_out zero set s b = absurd (omega arith)
lowest_out (suc m) set s b = go (set % 2) refl (lowest_out m (set / 2))
  where
    go : (d : ℕ) → set % 2 ≡ d
        → (0 < set / 2 → set / 2 < 2 ^ m → bit_and (set / 2) (set / 2 - 1) + 2 ^ count_trailing_zeros m (set / 2) ≡ set / 2)
        → bit_and set (set - 1) + 2 ^ C.under d (count_trailing_zeros m (set / 2)) ≡ set
    go zero e ih =
        let h : (set - 1) / 2 ≡ set / 2 - 1 = omega arith in
        let a : bit_and (set / 2) ((set - 1) / 2) ≡ bit_and (set / 2) (set / 2 - 1) = ap (bit_and (set / 2)) h in
        omega (arith, and_step set (set - 1), a, ih (omega arith) (omega (arith, pow-suc 2 m)), pow-suc 2 (count_trailing_zeros m (set / 2)))
    go (suc zero) e ih =
        let h : (set - 1) / 2 ≡ set / 2 = omega arith in
        let a : bit_and (set / 2) ((set - 1) / 2) ≡ set / 2 = ap (bit_and (set / 2)) h ∙ and_self (set / 2) in
        omega (arith, and_step set (set - 1), a)
    go (suc (suc d)) e ih = absurd (omega arith)

-- ---- as the code tests a member

pub shifted_down : (set k : ℕ) → eqb (bit_and (set / 2 ^ k) 1) 1 ≡ has set k
unfolding has
shifted_down set k = ap (λ n. eqb n 1) (and_mask (set / 2 ^ k) 1)
