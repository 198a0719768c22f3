-- A printed number is itself in decimal digits; its last digit and those before it, and how many there are.
-- Assumes nothing.
use mathlib.Core.Path.{◌≡◌, refl, sym, ◌∙◌, ap}
use mathlib.Core.Logic.{◌≢◌}
use mathlib.Core.List.{List, [], ◌∷◌, ◌++◌}
use Prim.Native.Nat.{ℕ, zero, suc, ◌+◌, ◌-◌, ◌*◌, ◌/◌, ◌%◌, ◌^◌, ◌≤◌, ◌<◌}
use native.Mathlib.Nat.{pow-succ'}
use native.Mathlib.Omega.{arith}
use lib.ListN.{length, get_or, length-append, get_or-append}
use borrow.Author.Tests.{lt-ltb, le-ltb}
use native.Mathlib.Decide.{dec_lt}
use Rattle.rules.specs.Words.{All}
use Rattle.rules.specs.Listing.{digits, decimal}
use Rattle.rules.specs.Demand2.{said_by, NumbersPrinted}
use Rattle.rules.proofs.Basics.{All-append}

-- none, one digit, and more than one
no_digits : (x : ℕ) → digits 0 x ≡ []
unfolding digits
no_digits x = refl

one_digit : (most x : ℕ) → x < 10 → digits (suc most) x ≡ (48 + x) ∷ []
unfolding digits
one_digit most x h = rw (lt-ltb x 10 h, digits)

more_digits : (most x : ℕ) → 10 ≤ x → digits (suc most) x ≡ digits most (x / 10) ++ ((48 + x % 10) ∷ [])
unfolding digits
more_digits most x h = rw (le-ltb x 10 h, digits)

-- a number that fits has no more digits where more are allowed
digits_enough : (most x : ℕ) → x < 10 ^ suc most → digits (suc (suc most)) x ≡ digits (suc most) x
digits_enough zero x h = one_digit 1 x h ∙ sym (one_digit 0 x h)
digits_enough (suc most) x h = go (dec_lt x 10) (digits_enough most (x / 10))
  where
    go : Dec (x < 10) → (x / 10 < 10 ^ suc most → digits (suc (suc most)) (x / 10) ≡ digits (suc most) (x / 10))
        → digits (suc (suc (suc most))) x ≡ digits (suc (suc most)) x
    go (yes l) ih = one_digit (suc (suc most)) x l ∙ sym (one_digit (suc most) x l)
    go (no l) ih =
        more_digits (suc (suc most)) x (omega arith)
        ∙ ap (λ ds. ds ++ ((48 + x % 10) ∷ [])) (ih (omega (arith, pow-succ' 10 (suc most))))
        ∙ sym (more_digits (suc most) x (omega arith))

pub decimal_one : (x : ℕ) → x < 10 → decimal x ≡ (48 + x) ∷ []
decimal_one x h = one_digit 19 x h

pub decimal_more : (x : ℕ) → x < 2 ^ 64 → 10 ≤ x → decimal x ≡ decimal (x / 10) ++ ((48 + x % 10) ∷ [])
decimal_more x b h =
    more_digits 19 x h ∙ ap (λ ds. ds ++ ((48 + x % 10) ∷ [])) (sym (digits_enough 18 (x / 10) (omega arith)))

-- below 10 ^ (n + 1) there are at most n + 1 digits
pub few_digits : (most n x : ℕ) → x < 10 ^ suc n → length (digits most x) ≤ suc n
few_digits zero n x h = omega (arith, ap length (no_digits x))
few_digits (suc most) zero x h = omega (arith, ap length (one_digit most x h))
few_digits (suc most) (suc n) x h = go (dec_lt x 10) (few_digits most n (x / 10))
  where
    go : Dec (x < 10) → (x / 10 < 10 ^ suc n → length (digits most (x / 10)) ≤ suc n) → length (digits (suc most) x) ≤ suc (suc n)
    go (yes l) ih = omega (arith, ap length (one_digit most x l))
    go (no l) ih =
        omega (
          arith,
          ap length (more_digits most x (omega arith)),
          length-append (digits most (x / 10)) ((48 + x % 10) ∷ []),
          ih (omega (arith, pow-succ' 10 (suc n))),
        )

-- one digit more behind the others
said_more : (v : ℕ) (cs : List ℕ) (c : ℕ) → said_by v (cs ++ (c ∷ [])) ≡ said_by v cs * 10 + (c - 48)
unfolding said_by
said_more v [] c = refl
said_more v (x ∷ xs) c = said_more (v * 10 + (x - 48)) xs c

-- what the digits of a number that fits are like
record Fit (x : ℕ) (ds : List ℕ) : Type 0 where
  some : 0 < length ds
  all_digits : All (λ c. (48 ≤ c) × (c ≤ 57)) ds
  says_it : said_by 0 ds ≡ x
  no_zero_first : 0 < x → get_or ds 0 48 ≢ 48

one_fit : (x : ℕ) → x < 10 → Fit x ((48 + x) ∷ [])
unfolding said_by
one_fit x h = record { some = omega arith; all_digits = (omega arith, tt); says_it = omega arith; no_zero_first = λ z e. omega arith }

more_fit : (x : ℕ) (ds : List ℕ) → 10 ≤ x → Fit (x / 10) ds → Fit x (ds ++ ((48 + x % 10) ∷ []))
more_fit x ds h f = record {
  some = rw (length-append ds ((48 + x % 10) ∷ [])) (omega (arith, f.some));
  all_digits = All-append (λ c. (48 ≤ c) × (c ≤ 57)) ds ((48 + x % 10) ∷ []) f.all_digits (omega arith, tt);
  says_it = said_more 0 ds (48 + x % 10) ∙ omega (arith, f.says_it);
  no_zero_first = λ z e. f.no_zero_first (omega arith) (sym (get_or-append ds ((48 + x % 10) ∷ []) 48 0 f.some) ∙ e);
}

fit : (most x : ℕ) → x < 10 ^ suc most → Fit x (digits (suc most) x)
fit zero x h = rw (one_digit 0 x h) (one_fit x h)
fit (suc most) x h = go (dec_lt x 10) (fit most (x / 10))
  where
    go : Dec (x < 10) → (x / 10 < 10 ^ suc most → Fit (x / 10) (digits (suc most) (x / 10))) → Fit x (digits (suc (suc most)) x)
    go (yes l) ih = rw (one_digit (suc most) x l) (one_fit x l)
    go (no l) ih =
        rw (more_digits (suc most) x (omega arith))
        (more_fit x (digits (suc most) (x / 10)) (omega arith) (ih (omega (arith, pow-succ' 10 (suc most)))))

pub numbers_printed : NumbersPrinted
numbers_printed x h =
    let f = fit 19 x h in
    record { all_digits = f.all_digits; says_it = f.says_it; no_zero_first = f.no_zero_first }
