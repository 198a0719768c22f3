-- How many decimal digits numbers of each kind have.
-- Assumes nothing.
use mathlib.Core.Path.{◌≡◌, ◌∙◌, ap}
use mathlib.Core.List.{[], ◌∷◌, ◌++◌}
use Prim.Native.Nat.{ℕ, ◌+◌, ◌/◌, ◌%◌, ◌^◌, ◌≤◌, ◌<◌}
use native.Mathlib.Decide.{dec_lt}
use native.Mathlib.Omega.{arith}
use lib.ListN.{length, length-append}
use Rattle.rules.specs.Listing.{decimal}
use Rattle.rules.proofs.Decimals.{decimal_one, decimal_more, few_digits}

-- a router's number, a byte, and numbers of 32 and 64 bits
pub router_digits : (x : ℕ) → x < 64 → length (decimal x) ≤ 2
router_digits x h = few_digits 20 1 x (omega arith)

pub byte_digits : (x : ℕ) → x < 2 ^ 8 → length (decimal x) ≤ 3
byte_digits x h = few_digits 20 2 x (omega arith)

pub cost_digits : (x : ℕ) → x < 2 ^ 32 → length (decimal x) ≤ 10
cost_digits x h = few_digits 20 9 x (omega arith)

pub place_digits : (x : ℕ) → x < 2 ^ 64 → length (decimal x) ≤ 20
place_digits x h = few_digits 20 19 x (omega arith)

pub two_digits : (x : ℕ) → 10 ≤ x → x < 100 → decimal x ≡ (48 + x / 10) ∷ (48 + x % 10) ∷ []
two_digits x l h = decimal_more x (omega arith) l ∙ ap (λ ds. ds ++ ((48 + x % 10) ∷ [])) (decimal_one (x / 10) (omega arith))

pub one_digit_more : (x : ℕ) → x < 2 ^ 64 → 10 ≤ x → length (decimal x) ≡ length (decimal (x / 10)) + 1
one_digit_more x b h = ap length (decimal_more x b h) ∙ length-append (decimal (x / 10)) ((48 + x % 10) ∷ [])

pub some_digit : (x : ℕ) → x < 2 ^ 64 → 0 < length (decimal x)
some_digit x b = go (dec_lt x 10)
  where
    go : Dec (x < 10) → 0 < length (decimal x)
    go (yes l) = omega (arith, ap length (decimal_one x l))
    go (no l) = omega (arith, one_digit_more x b (omega arith))
