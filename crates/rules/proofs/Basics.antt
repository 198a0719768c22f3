-- What the other files use: tests whose outcome is known, induction on a measure, counting and the pigeonhole principle, and lists: what holds of
-- every element, a part of a part, the values of a function at 0 to n − 1, the numbers that pass a test.
-- Assumes nothing.
use mathlib.Core.Path.{◌≡◌, refl, sym, ◌∙◌, ap, ap₂}
use mathlib.Core.Logic.{◌≢◌}
use mathlib.Core.Bool.{Bool, true, false, ◌&&◌, ◌||◌, or-true, false≢true}
use mathlib.Core.List.{List, [], ◌∷◌, ◌++◌, Memᴰ, map, map-append}
use Prim.Native.Nat.{ℕ, zero, suc, ◌+◌, ◌-◌, ◌≤◌, ◌<◌}
use native.Mathlib.Nat.{sub-zero, zero-sub, suc-sub-suc}
use native.Mathlib.Decide.{ℕ_discrete}
use native.Mathlib.Numerals.{add-one}
use native.Mathlib.Omega.{arith}
use lib.Dec.{eqb, ltb}
use lib.ListN.{length, get_or, take, drop, replicate, length-append, length-map, get_or-append, get_or-eq_default, drop_of_length-le}
use lib.Seq.{get_or_at, take-nil, drop-cons}
use borrow.Author.Tests.{ltb-true, lt-ltb, le-ltb, eq-eqb, ne_eqb}
use Rattle.std.specs.List.{list_all}
use Rattle.rules.specs.Words.{pick, every, those, tally, below, All, Distinct, Rising}

-- ---- tests

pub pick_t {ℓ} : {A : Type ℓ} (b : Bool) (x y : A) → b ≡ true → pick b x y ≡ x
pick_t b x y e = rw e

pub pick_f {ℓ} : {A : Type ℓ} (b : Bool) (x y : A) → b ≡ false → pick b x y ≡ y
pick_f b x y e = rw e

-- both tests pass
pub both : (s t : Bool) → (s && t) ≡ true → (s ≡ true) × (t ≡ true)
both true t e = (refl, e)
both false t e = absurd (false≢true e)

pub both_pass : (s t : Bool) → s ≡ true → t ≡ true → (s && t) ≡ true
both_pass s t e f = rw e f

-- neither test passes
pub neither : (s t : Bool) → (s || t) ≡ false → (s ≡ false) × (t ≡ false)
neither true t e = absurd (false≢true (sym e))
neither false t e = (refl, e)

-- ---- induction on a measure

-- P holds of every x if it holds wherever it holds of all that have a lower measure
module _ {A : Type 0} (measure : A → ℕ) (P : A → Type 0) (each : (x : A) → ((y : A) → measure y < measure x → P y) → P x) where
  strong_to : (m : ℕ) (x : A) → measure x < m → P x
  strong_to zero x h = absurd (omega arith)
  strong_to (suc m) x h = each x (λ y l. strong_to m y (omega arith))

  pub strong : (x : A) → P x
  strong x = strong_to (suc (measure x)) x (omega arith)

-- ---- counting

-- how many of the numbers 0 to n − 1 pass the test
pub count : (ℕ → Bool) → ℕ → ℕ
count p zero = 0
count p (suc n) = pick (p n) 1 0 + count p n

pub count_at_most : (p : ℕ → Bool) (n : ℕ) → count p n ≤ n
unfolding count
count_at_most p zero = omega arith
count_at_most p (suc n) = go (p n) (count_at_most p n)
  where
    go : (t : Bool) → count p n ≤ n → pick t 1 0 + count p n ≤ suc n
    go true h = omega arith
    go false h = omega arith

-- a test that passes wherever another does counts as many, and more if there is a number that only it lets pass
module _ (p q : ℕ → Bool) (more : (x : ℕ) → p x ≡ true → q x ≡ true) where
  one : (x : ℕ) → pick {A = ℕ} (p x) 1 0 ≤ pick (q x) 1 0
  one x = go (p x) (q x) (more x)
    where
      go : (s t : Bool) → (s ≡ true → t ≡ true) → pick {A = ℕ} s 1 0 ≤ pick t 1 0
      go true t f = rw (f refl) (omega arith)
      go false t f = omega arith

  pub count_mono : (n : ℕ) → count p n ≤ count q n
  unfolding count
  count_mono zero = omega arith
  count_mono (suc n) = omega (arith, one n, count_mono n)

  pub count_grows : (n x : ℕ) → x < n → p x ≡ false → q x ≡ true → count p n < count q n
  unfolding count
  count_grows zero x b s t = omega arith
  count_grows (suc n) x b s t = go (ℕ_discrete x n) (count_grows n x)
    where
      go : Dec (x ≡ n) → (x < n → p x ≡ false → q x ≡ true → count p n < count q n) → pick (p n) 1 0 + count p n < pick (q n) 1 0 + count q n
      go (yes e) ih =
          let s' : p n ≡ false = rw e at s in
          let t' : q n ≡ true = rw e at t in
          rw (s', t') (omega (arith, count_mono n))
      go (no e) ih = omega (arith, one n, ih (omega arith) s t)

-- how many of the numbers below n have an f below v: more for a higher v, if some f lies between
abbrev pub under : (ℕ → ℕ) → ℕ → ℕ → ℕ
under f n v = count (λ x. ltb (f x) v) n

pub under_grows : (f : ℕ → ℕ) (n u v x : ℕ) → x < n → u ≤ f x → f x < v → under f n u < under f n v
under_grows f n u v x b p q =
    count_grows (λ x. ltb (f x) u) (λ x. ltb (f x) v) (λ y e. lt-ltb (f y) v (omega (arith, ltb-true (f y) u e)))
    n x b (le-ltb (f x) u p) (lt-ltb (f x) v q)

-- ---- every element of a list

module _ {A : Type 0} where
  pub All-map : {P Q : A → Type 0} → ((x : A) → P x → Q x) → (xs : List A) → All P xs → All Q xs
  All-map f [] h = tt
  All-map f (x ∷ xs) h = (f x h.0, All-map f xs h.1)

  pub All-zip : {P Q R : A → Type 0} → ((x : A) → P x → Q x → R x) → (xs : List A) → All P xs → All Q xs → All R xs
  All-zip f [] g h = tt
  All-zip f (x ∷ xs) g h = (f x g.0 h.0, All-zip f xs g.1 h.1)

  -- of the values of a function at every element
  pub All-unmap : {B : Type 0} (P : B → Type 0) (f : A → B) (xs : List A) → All P (map f xs) → All (λ x. P (f x)) xs
  All-unmap P f [] h = tt
  All-unmap P f (x ∷ xs) h = (h.0, All-unmap P f xs h.1)

  pub All-append : (P : A → Type 0) (xs ys : List A) → All P xs → All P ys → All P (xs ++ ys)
  All-append P [] ys g h = h
  All-append P (x ∷ xs) ys g h = (g.0, All-append P xs ys g.1 h)

  pub All-parts : (P : A → Type 0) (xs ys : List A) → All P (xs ++ ys) → All P xs × All P ys
  All-parts P [] ys h = (tt, h)
  All-parts P (x ∷ xs) ys h = let (f, g) = All-parts P xs ys h.1 in ((h.0, f), g)

  -- of those before an element, and of it
  pub All-before : (P : A → Type 0) (xs : List A) (y : A) (ys : List A) → All P (xs ++ (y ∷ ys)) → All P xs × P y
  All-before P [] y ys h = (tt, h.0)
  All-before P (x ∷ xs) y ys h = let (f, g) = All-before P xs y ys h.1 in ((h.0, f), g)

  -- of a listed one
  pub All-listed : (P : A → Type 0) (xs : List A) → All P xs → (x : A) → Memᴰ x xs → P x
  All-listed P [] h x m = elim m [ ]
  All-listed P (y ∷ xs) h x (Memᴰ.head q) = rw q h.0
  All-listed P (y ∷ xs) h x (Memᴰ.tail m) = All-listed P xs h.1 x m

  -- of the one at a place
  pub All-there : (P : A → Type 0) (xs : List A) → All P xs → (k : ℕ) (other : A) → k < length xs → P (get_or xs k other)
  All-there P [] h k other l = absurd (omega arith)
  All-there P (x ∷ xs) h zero other l = h.0
  All-there P (x ∷ xs) h (suc k) other l = All-there P xs h.1 k other (omega arith)

  -- the same, and of the other that stands for a place behind them
  pub All-at : (P : A → Type 0) (xs : List A) (other : A) → All P xs → P other → (k : ℕ) → P (get_or xs k other)
  All-at P [] other h o k = o
  All-at P (x ∷ xs) other h o zero = h.0
  All-at P (x ∷ xs) other h o (suc k) = All-at P xs other h.1 o k

  -- where values rise, those before an element are lower
  pub lower_before : (f : A → ℕ) (xs : List A) (y : A) (ys : List A) → Rising (map f (xs ++ (y ∷ ys))) → All (λ x. f x < f y) xs
  lower_before f [] y ys h = tt
  lower_before f (x ∷ xs) y ys h = (last xs h.0, lower_before f xs y ys h.1)
    where
      last : (xs : List A) → All (λ n. f x < n) (map f (xs ++ (y ∷ ys))) → f x < f y
      last [] h = h.0
      last (x ∷ xs) h = last xs h.1

  -- where values rise below n there are at most n
  pub rising_few : (f : A → ℕ) (n : ℕ) (xs : List A) → Rising (map f xs) → All (λ x. f x < n) xs → length xs ≤ n
  rising_few f n [] r b = omega arith
  rising_few f n (x ∷ xs) r b = omega (arith, behind x xs r.0 r.1 b.0 b.1)
    where
      behind : (x : A) (xs : List A) → All (λ k. f x < k) (map f xs) → Rising (map f xs) → f x < n → All (λ y. f y < n) xs → f x + suc (length xs) ≤ n
      behind x [] a r l b = omega arith
      behind x (y ∷ xs) a r l b = omega (arith, a.0, behind y xs r.0 r.1 b.0 b.1)

  -- tests that agree on every element count as many, and none counts more than there are
  pub tally_same : (p q : A → Bool) (xs : List A) → All (λ x. p x ≡ q x) xs → tally p xs ≡ tally q xs
  unfolding tally
  tally_same p q [] h = refl
  tally_same p q (x ∷ xs) h = rw (h.0, tally_same p q xs h.1)

  pub tally_at_most : (p : A → Bool) (xs : List A) → tally p xs ≤ length xs
  unfolding tally
  tally_at_most p [] = omega arith
  tally_at_most p (x ∷ xs) = go (p x) (tally_at_most p xs)
    where
      go : (t : Bool) → tally p xs ≤ length xs → pick t 1 0 + tally p xs ≤ length (x ∷ xs)
      go true h = omega arith
      go false h = omega arith

  -- of the elements no more pass a test than there are
  pub those_at_most : (p : A → Bool) (xs : List A) → length (those p xs) ≤ length xs
  unfolding those
  those_at_most p [] = omega arith
  those_at_most p (x ∷ xs) = go (p x) (those_at_most p xs)
    where
      go : (t : Bool) → length (those p xs) ≤ length xs → length (pick t (x ∷ those p xs) (those p xs)) ≤ suc (length xs)
      go true ih = omega arith
      go false ih = omega arith

  pub those_append : (p : A → Bool) (xs ys : List A) → those p (xs ++ ys) ≡ those p xs ++ those p ys
  unfolding those
  those_append p [] ys = refl
  those_append p (x ∷ xs) ys = rw (those_append p xs ys) (go (p x))
    where
      go : (t : Bool) → pick t (x ∷ (those p xs ++ those p ys)) (those p xs ++ those p ys) ≡ pick t (x ∷ those p xs) (those p xs) ++ those p ys
      go true = refl
      go false = refl

  -- the test of every element, as std says it
  pub list_all_every : (p : A → Bool) (xs : List A) → list_all p xs ≡ every p xs
  unfolding every
  list_all_every p [] = refl
  list_all_every p (x ∷ xs) = ap (λ r. p x && r) (list_all_every p xs)

  -- a test that every element passes
  pub every_true : (p : A → Bool) (P : A → Type 0) → ((x : A) → p x ≡ true → P x) → (xs : List A) → every p xs ≡ true → All P xs
  unfolding every
  every_true p P f [] e = tt
  every_true p P f (x ∷ xs) e = let b = both (p x) (every p xs) e in (f x b.0, every_true p P f xs b.1)

  pub true_every : (p : A → Bool) (P : A → Type 0) → ((x : A) → P x → p x ≡ true) → (xs : List A) → All P xs → every p xs ≡ true
  unfolding every
  true_every p P f [] h = refl
  true_every p P f (x ∷ xs) h = rw (f x h.0, true_every p P f xs h.1)

  -- the same from place i on, one element at a time
  module _ (p : A → Bool) (xs : List A) (i : ℕ) where
    pub one_fails : (x : A) (r : Bool) → every p (drop i xs) ≡ r → i < length xs → p (get_or xs i x) ≡ false → false ≡ r
    unfolding every
    one_fails x r inv h e = sym (rw (drop-cons xs i x, e)) ∙ inv

    pub one_passes : (x : A) (r : Bool) → every p (drop i xs) ≡ r → i < length xs → p (get_or xs i x) ≡ true → every p (drop (i + 1) xs) ≡ r
    unfolding every
    one_passes x r inv h e = sym (rw (drop-cons xs i x, add-one, e)) ∙ inv

    pub all_passed : (r : Bool) → every p (drop i xs) ≡ r → length xs ≤ i → true ≡ r
    unfolding every
    all_passed r inv h = sym (rw (drop_of_length-le xs h)) ∙ inv

-- ---- an element does not depend on what would stand behind the end

pub any_default : {A : Type 0} (l : List A) (i : ℕ) (d e : A) → i < length l → get_or l i d ≡ get_or l i e
any_default [] i d e h = absurd (omega arith)
any_default (x ∷ xs) zero d e h = refl
any_default (x ∷ xs) (suc i) d e h = any_default xs i d e (omega arith)

-- a list of one element, again and again, with that element behind its end
pub same_everywhere : {A : Type 0} (x : A) (n k : ℕ) → get_or (replicate n x) k x ≡ x
same_everywhere x zero k = refl
same_everywhere x (suc n) zero = refl
same_everywhere x (suc n) (suc k) = same_everywhere x n k

-- ---- a part of a part

pub drop_take : {A : Type 0} (n m : ℕ) (l : List A) → drop n (take m l) ≡ take (m - n) (drop n l)
drop_take zero m l = rw (sub-zero m)
drop_take (suc n) zero l = rw (zero-sub (suc n))
drop_take (suc n) (suc m) [] = sym (take-nil (suc m - suc n))
drop_take (suc n) (suc m) (x ∷ xs) = rw (suc-sub-suc m n) (drop_take n m xs)

-- ---- lists of numbers with no number twice

abbrev elem : List ℕ → ℕ → Bool
elem [] z = false
elem (x ∷ xs) z = eqb x z || elem xs z

elem_not : (z : ℕ) (xs : List ℕ) → All (λ y. y ≢ z) xs → elem xs z ≡ false
elem_not z [] h = refl
elem_not z (x ∷ xs) h = rw (ne_eqb x z h.0) (elem_not z xs h.1)

-- the pigeonhole principle: at most n different numbers are below n
pub pigeonhole : (n : ℕ) (xs : List ℕ) → Distinct xs → All (λ x. x < n) xs → length xs ≤ n
pigeonhole n xs d b = omega (arith, counted xs d b, count_at_most (elem xs) n)
  where
    counted : (xs : List ℕ) → Distinct xs → All (λ x. x < n) xs → length xs ≤ count (elem xs) n
    counted [] d b = omega arith
    counted (x ∷ xs) d b =
        omega (
          arith,
          counted xs d.1 b.1,
          count_grows (elem xs) (elem (x ∷ xs)) (λ z e. rw e (or-true (eqb x z))) n x b.0 (elem_not x xs d.0) (rw (eq-eqb x x refl)),
        )

-- ---- the values of a function at 0 to n − 1

pub length_below : (n : ℕ) → length (below n) ≡ n
unfolding below
length_below zero = refl
length_below (suc n) = length-append (below n) (n ∷ []) ∙ omega (arith, length_below n)

module _ {A : Type 0} (f : ℕ → A) where
  pub length_values : (n : ℕ) → length (map f (below n)) ≡ n
  length_values n = length-map (below n) f ∙ length_below n

  pub values_more : (n : ℕ) → map f (below (suc n)) ≡ map f (below n) ++ (f n ∷ [])
  unfolding below
  values_more n = map-append f (below n) (n ∷ [])

  pub value_at : (n k : ℕ) (other : A) → k < n → get_or (map f (below n)) k other ≡ f k
  value_at zero k other h = absurd (omega arith)
  value_at (suc n) k other h = rw (values_more n) (go (ℕ_discrete k n) (value_at n k other))
    where
      go : Dec (k ≡ n) → (k < n → get_or (map f (below n)) k other ≡ f k) → get_or (map f (below n) ++ (f n ∷ [])) k other ≡ f k
      go (yes e) ih = rw e (get_or_at (map f (below n)) (f n) [] other n (length_values n))
      go (no e) ih = get_or-append (map f (below n)) (f n ∷ []) other k (omega (arith, length_values n)) ∙ ih (omega arith)

  -- behind the last value
  pub value_behind : (n k : ℕ) (other : A) → n ≤ k → get_or (map f (below n)) k other ≡ other
  value_behind n k other h = get_or-eq_default (map f (below n)) other (omega (arith, length_values n))

  -- what holds of every value
  pub All-values : (P : A → Type 0) → ((k : ℕ) → P (f k)) → (ks : List ℕ) → All P (map f ks)
  All-values P h [] = tt
  All-values P h (k ∷ ks) = (h k, All-values P h ks)

-- a function's values at 0 to n − 1 are settled by its values there
pub values_same : (f g : ℕ → ℕ) (n : ℕ) → ((d : ℕ) → d < n → f d ≡ g d) → map f (below n) ≡ map g (below n)
unfolding below
values_same f g zero h = refl
values_same f g (suc n) h =
    values_more f n
    ∙ ap₂ (λ l x. l ++ (x ∷ [])) (values_same f g n (λ d l. h d (omega arith))) (h n (omega arith))
    ∙ sym (values_more g n)

pub below_at : (n k other : ℕ) → k < n → get_or (below n) k other ≡ k
below_at n k other h = ap (λ l. get_or l k other) (sym (map_same (below n))) ∙ value_at (λ z. z) n k other h
  where
    map_same : (l : List ℕ) → map (λ z. z) l ≡ l
    map_same [] = refl
    map_same (x ∷ xs) = rw (map_same xs)

-- ---- the numbers below n that pass a test

module _ (p : ℕ → Bool) where
  pub those_more : (n : ℕ) → those p (below (suc n)) ≡ those p (below n) ++ pick (p n) (n ∷ []) []
  unfolding below those
  those_more n = those_append p (below n) (n ∷ [])

  pub all_those : (n : ℕ) → All (λ x. (p x ≡ true) × (x < n)) (those p (below n))
  unfolding below those
  all_those zero = tt
  all_those (suc n) =
      rw (those_more n)
      (All-append (λ x. (p x ≡ true) × (x < suc n)) (those p (below n)) (pick (p n) (n ∷ []) [])
      (All-map (λ x h. (h.0, omega arith)) (those p (below n)) (all_those n)) (go (p n) refl))
    where
      go : (t : Bool) → p n ≡ t → All (λ x. (p x ≡ true) × (x < suc n)) (pick t (n ∷ []) [])
      go true e = ((e, omega arith), tt)
      go false e = tt

  -- the first of them passes, and none that passes is lower
  pub first_of_those : (n k other : ℕ) → k < n → p k ≡ true
      → (0 < length (those p (below n))) × (p (get_or (those p (below n)) 0 other) ≡ true) × (get_or (those p (below n)) 0 other ≤ k)
  first_of_those zero k other h e = absurd (omega arith)
  first_of_those (suc n) k other h e = rw (those_more n) (go (ℕ_discrete k n) (those p (below n)) (all_those n) (first_of_those n k other))
    where
      go : Dec (k ≡ n) → (xs : List ℕ) → All (λ x. (p x ≡ true) × (x < n)) xs
          → (k < n → p k ≡ true → (0 < length xs) × (p (get_or xs 0 other) ≡ true) × (get_or xs 0 other ≤ k))
          → (0 < length (xs ++ pick (p n) (n ∷ []) []))
          × (p (get_or (xs ++ pick (p n) (n ∷ []) []) 0 other) ≡ true)
          × (get_or (xs ++ pick (p n) (n ∷ []) []) 0 other ≤ k)
      go d (x ∷ xs) a ih = (omega arith, a.0.0, lower d)
        where
          lower : Dec (k ≡ n) → x ≤ k
          lower (yes q) = omega (arith, a.0.1)
          lower (no q) = (ih (omega arith) e).2
      go (yes q) [] a ih =
          let e' : p n ≡ true = rw q at e in
          rw e' (omega arith, e', omega arith)
      go (no q) [] a ih = absurd (omega (arith, (ih (omega arith) e).0))
