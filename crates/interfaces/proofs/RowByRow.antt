-- A table that is written row by row.
-- Assumes nothing.
use mathlib.Core.Path.{◌≡◌, sym, ◌∙◌, ap, ap₂}
use mathlib.Core.List.{List, [], ◌∷◌, ◌++◌, map, flatten, append_assoc, append-nil}
use Prim.Native.Nat.{ℕ, suc, ◌+◌, ◌*◌, ◌≤◌, ◌<◌}
use native.Mathlib.Numerals.{add-one}
use native.Mathlib.Nat.{mul-le-mul_right}
use native.Mathlib.Omega.{arith}
use lib.ListN.{length, take, drop, length-drop}
use lib.Seq.{length-take-le, take_at, drop_at, drop-drop}
use borrow.Rule.Slice.PartMut.{put_mid}
use Rattle.rules.specs.Words.{below}
use Rattle.rules.specs.Entries.{starts_here}
use Rattle.rules.specs.InterfacesQuestion.{cells}
use Rattle.rules.proofs.Interfaces.{length_rows}
use Rattle.rules.proofs.Basics.{length_below}
use Rattle.interfaces.specs.Interfaces.{rows}

module _ (f : ℕ → ℕ → ℕ) (n : ℕ) where
  abbrev row_of : ℕ → List ℕ
  row_of j = map (f j) (below n)

  -- row 255 is the first
  pub first_row : rows f n 0 ≡ row_of starts_here
  unfolding rows flatten below
  first_row = append-nil (row_of starts_here)

  rows_length : (m : ℕ) → length (rows f n m) ≡ (m + 1) * n
  unfolding rows
  rows_length m =
      let e : suc (length (below m)) ≡ m + 1 = omega (arith, length_below m) in
      length_rows f n (starts_here ∷ below m) ∙ ap (λ k. k * n) e

  flatten_more : (js : List ℕ) (j : ℕ) → flatten (map row_of (js ++ (j ∷ []))) ≡ flatten (map row_of js) ++ row_of j
  unfolding flatten
  flatten_more [] j = append-nil (row_of j)
  flatten_more (k ∷ js) j = ap (λ l. row_of k ++ l) (flatten_more js j) ∙ sym (append_assoc (row_of k) (flatten (map row_of js)) (row_of j))

  rows_more : (m : ℕ) → rows f n (m + 1) ≡ rows f n m ++ row_of m
  unfolding rows below
  rows_more m = ap (rows f n) (add-one m) ∙ flatten_more (starts_here ∷ below m) m

  -- one more row, in the part behind those that are written
  pub row_written : (lent out row : List ℕ) (m k : ℕ) → out ≡ rows f n m ++ drop ((m + 1) * n) lent → k ≡ n
      → row ≡ map (f m) (below (length (take k (drop ((m + 1) * n) out)))) → m < n → cells n ≤ length lent
      → put_mid ((m + 1) * n) k out row ≡ rows f n (m + 1) ++ drop ((m + 1 + 1) * n) lent
  row_written lent out row m k e l r b h =
      ap₂ ◌++◌ (ap (take start) e ∙ take_at (rows f n m) (drop start lent) start written) (ap₂ ◌++◌ (r ∙ ap (λ j. map (f m) (below j)) whole) behind)
      ∙ sym (append_assoc (rows f n m) (row_of m) (drop ((m + 1 + 1) * n) lent))
      ∙ ap (λ l. l ++ drop ((m + 1 + 1) * n) lent) (sym (rows_more m))
    where
      start : ℕ
      start = (m + 1) * n

      written : length (rows f n m) ≡ start
      written = rows_length m

      same : drop start out ≡ drop start lent
      same = ap (drop start) e ∙ drop_at (rows f n m) (drop start lent) start written

      whole : length (take k (drop start out)) ≡ n
      whole = length-take-le k (drop start out) (rw (same, length-drop start lent) (omega (arith, mul-le-mul_right n b))) ∙ l

      next : start + k ≡ (m + 1 + 1) * n
      next = omega (arith, l)

      behind : drop k (drop start out) ≡ drop ((m + 1 + 1) * n) lent
      behind = ap (drop k) same ∙ drop-drop k start lent ∙ ap (λ k. drop k lent) next
