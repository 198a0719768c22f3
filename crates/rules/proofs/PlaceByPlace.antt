-- An output filled place by place: the first places hold the values of a function, and behind them stands what was lent.
-- Assumes nothing.
use mathlib.Core.Path.{◌≡◌, refl, sym, ◌∙◌, ap, ap₂}
use mathlib.Core.List.{List, [], ◌∷◌, ◌++◌, map, append_assoc, append-nil}
use Prim.Native.Nat.{ℕ, suc, ◌+◌, ◌≤◌, ◌<◌}
use native.Mathlib.Numerals.{add-one}
use native.Mathlib.Omega.{arith}
use lib.ListN.{length, get_or, take, drop, set, length-set}
use lib.Seq.{drop-cons, drop-length, ext_get_or, get_or-take, length-take-le, set_at}
use Rattle.rules.specs.Words.{below}
use Rattle.rules.proofs.Basics.{length_values, value_at, values_more}

-- the first n places are filled
pub record Filled (f : ℕ → ℕ) (lent now : List ℕ) (n : ℕ) : Type 0 where
  pub within : n ≤ length lent
  pub same_length : length now ≡ length lent
  pub so_far : now ≡ map f (below n) ++ drop n lent

module _ (f : ℕ → ℕ) (lent : List ℕ) where
  pub none_filled : Filled f lent lent 0
  unfolding below
  none_filled = record { within = omega arith; same_length = refl; so_far = refl }

  module _ (now : List ℕ) (n : ℕ) (w : Filled f lent now n) where
    pub one_filled : (v : ℕ) → n < length now → v ≡ f n → Filled f lent (set now n v) (n + 1)
    one_filled v l e = record {
      within = omega (arith, w.same_length);
      same_length = length-set now n v ∙ w.same_length;
      so_far =
          ap₂ (λ l x. set l n x) (w.so_far ∙ ap (λ l. map f (below n) ++ l) (drop-cons lent n 0 (omega (arith, w.same_length)))) e
          ∙ set_at (map f (below n)) (get_or lent n 0) (drop (suc n) lent) (f n) n (length_values f n)
          ∙ sym (append_assoc (map f (below n)) (f n ∷ []) (drop (suc n) lent))
          ∙ ap (λ l. l ++ drop (suc n) lent) (sym (values_more f n))
          ∙ ap (λ k. map f (below k) ++ drop k lent) (sym (add-one n));
    }

    -- the whole output is filled
    pub all_filled : length now ≤ n → now ≡ map f (below (length lent))
    all_filled h =
        w.so_far
        ∙ ap (λ k. map f (below k) ++ drop k lent) (omega (arith, w.within, w.same_length))
        ∙ ap (λ l. map f (below (length lent)) ++ l) (drop-length lent)
        ∙ append-nil (map f (below (length lent)))

    -- the same, where the output's length is known
    pub all_of_filled : (m : ℕ) → length lent ≡ m → m ≤ n → now ≡ map f (below m)
    all_of_filled m l h = all_filled (omega (arith, w.same_length)) ∙ ap (λ k. map f (below k)) l

-- the first n of a list are its values at 0 to n − 1
first_values : (l : List ℕ) (n : ℕ) → n ≤ length l → map (λ k. get_or l k 0) (below n) ≡ take n l
first_values l n h =
    ext_get_or 0 (map (λ k. get_or l k 0) (below n)) (take n l) (length_values _ n ∙ sym (length-take-le n l h))
    (λ i b. let m : i < n = omega (arith, length_values (λ k. get_or l k 0) n) in value_at (λ k. get_or l k 0) n i 0 m ∙ sym (get_or-take n l i 0 m))

-- the first n of an array are handed over
pub first_filled : (found lent now : List ℕ) (i : ℕ) → Filled (λ k. get_or found k 0) lent now i → (n : ℕ) → i ≡ n → n ≤ length found
    → now ≡ take n found ++ drop n lent
first_filled found lent now i w n e h =
    w.so_far ∙ ap (λ k. map (λ k. get_or found k 0) (below k) ++ drop k lent) e ∙ ap (λ l. l ++ drop n lent) (first_values found n h)

-- the first n values of a function, of more of them
pub take_values : (f : ℕ → ℕ) (m n : ℕ) → n ≤ m → take n (map f (below m)) ≡ map f (below n)
take_values f m n h =
    ext_get_or 0 (take n (map f (below m))) (map f (below n)) (long ∙ sym (length_values f n))
    (λ i b. let l : i < n = omega (arith, long) in get_or-take n (map f (below m)) i 0 l ∙ value_at f m i 0 (omega arith) ∙ sym (value_at f n i 0 l))
  where
    long : length (take n (map f (below m))) ≡ n
    long = length-take-le n (map f (below m)) (omega (arith, length_values f m))
