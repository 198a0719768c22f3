-- One router's lines to the others, destination by destination.
-- Assumes nothing.
use mathlib.Core.Path.{◌≡◌, refl, sym, ◌∙◌, ap}
use mathlib.Core.Logic.{◌≢◌}
use mathlib.Core.Bool.{Bool, true, false, not}
use mathlib.Core.List.{List, [], ◌∷◌, ◌++◌, map, flatten, map-append, append_assoc, append-nil}
use Prim.Native.Nat.{ℕ, ◌+◌, ◌<◌}
use native.Mathlib.Numerals.{add-one}
use lib.ListN.{length, get_or}
use borrow.Author.Tests.{eq-eqb, ne_eqb}
use Rattle.rules.specs.Words.{◌=?◌, pick, those, below}
use Rattle.rules.specs.Costs.{no_cost}
use Rattle.rules.specs.Listing.{line_of}
use Rattle.rules.proofs.Basics.{any_default, those_more}
use Rattle.search.specs.declared.Found.{Found}

pub flatten_append : (xs ys : List (List ℕ)) → flatten (xs ++ ys) ≡ flatten xs ++ flatten ys
unfolding flatten
flatten_append [] ys = refl
flatten_append (x ∷ xs) ys = ap (λ l. x ++ l) (flatten_append xs ys) ∙ sym (append_assoc x (flatten xs) (flatten ys))

-- what is made of each number below n that passes a test, joined
module _ (f : ℕ → List ℕ) (q : ℕ → Bool) where
  abbrev all_below : ℕ → List ℕ
  all_below n = flatten (map f (those q (below n)))

  all_more : (n : ℕ) (t : Bool) → q n ≡ t → all_below (n + 1) ≡ all_below n ++ pick t (f n) []
  unfolding flatten
  all_more n t e =
      ap all_below (add-one n)
      ∙ ap (λ ks. flatten (map f ks)) (those_more q n)
      ∙ ap flatten (map-append f (those q (below n)) (pick (q n) (n ∷ []) []))
      ∙ flatten_append (map f (those q (below n))) (map f (pick (q n) (n ∷ []) []))
      ∙ ap (λ l. all_below n ++ l) (ap (λ u. flatten (map f (pick u (n ∷ []) []))) e ∙ go t)
    where
      go : (t : Bool) → flatten (map f (pick t (n ∷ []) [])) ≡ pick t (f n) []
      go true = append-nil (f n)
      go false = refl

module _ (found : Found) (i : ℕ) where
  -- the lines to all others below d, by what was found
  abbrev pub lines_below : ℕ → List ℕ
  lines_below d = all_below (λ d. line_of i d (get_or found.costs d no_cost) (get_or found.sets d 0)) (λ d. not (d =? i)) d

  pub no_lines : lines_below 0 ≡ []
  unfolding flatten below those
  no_lines = refl

  pub own_passed : (d : ℕ) → d ≡ i → lines_below (d + 1) ≡ lines_below d
  own_passed d e = all_more _ _ d false (ap not (eq-eqb d i e)) ∙ append-nil (lines_below d)

  pub one_listed : (d : ℕ) → d ≢ i → d < length found.costs → lines_below (d + 1) ≡ lines_below d ++ line_of i d (get_or found.costs d 0) (get_or found.sets d 0)
  one_listed d a h =
      all_more _ _ d true (ap not (ne_eqb d i a))
      ∙ ap (λ c. lines_below d ++ line_of i d c (get_or found.sets d 0)) (any_default found.costs d no_cost 0 h)
