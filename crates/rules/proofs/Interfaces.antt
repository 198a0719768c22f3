-- An interface table: how long it is, and cell by cell.
-- Assumes nothing.
use mathlib.Core.Path.{◌≡◌, refl, ◌∙◌, ap}
use mathlib.Core.List.{List, [], ◌∷◌, ◌++◌, map, flatten}
use Prim.Native.Nat.{ℕ, zero, suc, ◌+◌, ◌*◌, ◌<◌}
use native.Mathlib.Nat.{suc-mul}
use native.Mathlib.Numerals.{add-one}
use native.Mathlib.Omega.{arith}
use lib.ListN.{length, get_or, length-append, get_or-append}
use lib.Seq.{get_or-append-add}
use borrow.Author.Tests.{eq-eqb, ne_eqb}
use Rattle.rules.specs.Words.{below}
use Rattle.rules.specs.Layout.{Table}
use Rattle.rules.specs.Entries.{starts_here, cell, row, interfaces}
use Rattle.rules.specs.Demand2.{InterfacesCellByCell}
use Rattle.rules.proofs.Basics.{pick_t, pick_f, length_below, length_values, value_at, below_at}

-- rows of n columns, one for each of js
pub length_rows : (f : ℕ → ℕ → ℕ) (n : ℕ) (js : List ℕ) → length (flatten (map (λ j. map (f j) (below n)) js)) ≡ length js * n
unfolding flatten
length_rows f n [] = omega arith
length_rows f n (j ∷ js) =
    length-append (map (f j) (below n)) (flatten (map (λ j. map (f j) (below n)) js))
    ∙ omega (arith, length_values (f j) n, length_rows f n js, suc-mul (length js) n)

-- the rows of an interface table are each as long as there are routers
length_row : (t : Table) (i j : ℕ) → length (row t i j) ≡ t.routers
unfolding row
length_row t i j = length_values _ t.routers

pub length_interfaces : (t : Table) (i : ℕ) → length (interfaces t i) ≡ (t.routers + 1) * t.routers
unfolding interfaces row
length_interfaces t i =
    let e : suc (length (below t.routers)) ≡ t.routers + 1 = omega (arith, length_below t.routers) in
    length_rows (cell t i) t.routers (starts_here ∷ below t.routers) ∙ ap (λ n. n * t.routers) e

-- row r of them, column d
cell_of : (t : Table) (i : ℕ) (js : List ℕ) (r d : ℕ) → r < length js → d < t.routers
    → get_or (flatten (map (row t i) js)) (r * t.routers + d) 0 ≡ cell t i (get_or js r 0) d
unfolding flatten row
cell_of t i [] r d h b = absurd (omega arith)
cell_of t i (j ∷ js) zero d h b =
    let e : zero * t.routers + d ≡ d = omega arith in
    ap (λ n. get_or (row t i j ++ flatten (map (row t i) js)) n 0) e
    ∙ get_or-append (row t i j) (flatten (map (row t i) js)) 0 d (omega (arith, length_row t i j))
    ∙ value_at (cell t i j) t.routers d 0 b
cell_of t i (j ∷ js) (suc r) d h b =
    let e : suc r * t.routers + d ≡ length (row t i j) + (r * t.routers + d) = omega (arith, length_row t i j, suc-mul r t.routers) in
    ap (λ n. get_or (row t i j ++ flatten (map (row t i) js)) n 0) e
    ∙ get_or-append-add (row t i j) (flatten (map (row t i) js)) (r * t.routers + d) 0
    ∙ cell_of t i js r d (omega arith) b

pub interfaces_cell_by_cell : InterfacesCellByCell
unfolding interfaces cell
interfaces_cell_by_cell t i = record {
  row_255 = λ d b.
      let e : d ≡ 0 * t.routers + d = omega arith in
      ap (λ n. get_or (interfaces t i) n 0) e ∙ cell_of t i (starts_here ∷ below t.routers) 0 d (omega arith) b;
  row_of = λ j d h b.
      let e : (j + 1) * t.routers + d ≡ suc j * t.routers + d = ap (λ n. n * t.routers + d) (add-one j) in
      ap (λ n. get_or (interfaces t i) n 0) e
      ∙ cell_of t i (starts_here ∷ below t.routers) (suc j) d (omega (arith, length_below t.routers)) b
      ∙ ap (λ k. cell t i k d) (below_at t.routers j 0 h);
  own_row = λ d. pick_t _ _ _ (eq-eqb i i refl);
  other_row = λ j d a. pick_f _ _ _ (ne_eqb i j a);
}
