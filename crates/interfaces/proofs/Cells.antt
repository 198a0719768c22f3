-- The cells of an interface table, by the router's next-hop sets.
-- Assumes nothing.
use mathlib.Core.Path.{◌≡◌, refl, sym, ◌∙◌, ap}
use mathlib.Core.Logic.{◌≢◌, inl}
use mathlib.Core.Bool.{Bool, true, false}
use mathlib.Core.List.{List, [], ◌∷◌, ◌++◌, map, flatten}
use Prim.Native.Nat.{ℕ, ◌+◌, ◌^◌, ◌<◌}
use native.Mathlib.Decide.{ℕ_discrete, dec_lt}
use native.Mathlib.Omega.{arith}
use lib.Bits.{bit_or}
use lib.Dec.{eqb}
use lib.ListN.{length, get_or, take, drop, set, replicate, get_or-replicate, length-replicate}
use lib.Seq.{ext_get_or, get_or-take}
use borrow.Author.Tests.{eq-eqb, ne_eqb}
use Rattle.std.specs.List.{fold}
use Rattle.std.proofs.lemmas.List.Edits.{fill_by_more}
use Rattle.rules.specs.Words.{pick, below, All}
use Rattle.rules.specs.Layout.{Table, Obeys}
use Rattle.rules.specs.Table.{says}
use Rattle.rules.specs.NextHops.{has, chosen, next_hops}
use Rattle.rules.specs.Entries.{starts_here, entry_by, entry, code, cell, row, interfaces}
use Rattle.rules.specs.Demand1.{IsAccepted}
use Rattle.rules.specs.InterfacesQuestion.{cells}
use Rattle.rules.proofs.Acceptance.{obeys}
use Rattle.rules.proofs.Basics.{All-at, values_same, length_values, value_behind, neither, pick_t, pick_f, value_at}
use Rattle.rules.proofs.Sets.{has_below, empty_sets, sets_fit}
use Rattle.tables.specs.Readings.{outline_of}
use Rattle.tables.specs.declared.Outline.{Outline}
use Rattle.sets.proofs.ByMembers.{nobody}
use Rattle.sets.proofs.Bits.{has_joined}
use Rattle.entries.specs.Entries.{entry_told, pipo}
use Rattle.entries.proofs.Entries.{delivers, cut_off, discards, sends, by_set}
use Rattle.interfaces.specs.Interfaces.{code_by, start_codes, code_from, cell_from, members_of, rows}

-- values that are written place by place
pub values_of : (f : ℕ → ℕ) (l : List ℕ) (n : ℕ) → length l ≡ n → ((k : ℕ) → k < n → get_or l k 0 ≡ f k) → l ≡ map f (below n)
values_of f l n e h =
    ext_get_or 0 l (map f (below n)) (e ∙ sym (length_values f n)) (λ k b. h k (omega arith) ∙ sym (value_at f n k 0 (omega arith)))

-- one value more
pub one_more : (f : ℕ → ℕ) (l : List ℕ) (i v : ℕ) → i < length l → v ≡ f i → ((k : ℕ) → k < i → get_or l k 0 ≡ f k)
    → (k : ℕ) → k < i + 1 → get_or (set l i v) k 0 ≡ f k
one_more f l i v b e h = rw e (fill_by_more f l i 0 b h)

-- a loop that writes such values: its step and its end
pub ruleset filling = (one_more, values_of)

-- a router that is no member of all the sets is in none of them
nowhere : (sets : List ℕ) (m j : ℕ) → has (fold bit_or m sets) j ≡ false → (has m j ≡ false) × All (λ s. has s j ≡ false) sets
nowhere [] m j e = (e, tt)
nowhere (set ∷ sets) m j e =
    let h : (has (bit_or m set) j ≡ false) × All (λ s. has s j ≡ false) sets = nowhere sets (bit_or m set) j e in
    let f : (has m j ≡ false) × (has set j ≡ false) = neither _ _ (sym (has_joined j m set) ∙ h.0) in
    (f.0, (f.1, h.1))

-- ---- the rows, by the sets and the codes of row 255

module _ (sets codes : List ℕ) (i n : ℕ) (row : List ℕ) where
  -- row 255
  pub start_row : row ≡ take n codes → length row ≡ n → row ≡ map (cell_from sets codes i starts_here) (below n)
  unfolding cell_from
  start_row e h = values_of _ row n h (λ k b. ap (λ l. get_or l k 0) e ∙ get_or-take n codes k 0 b)

  module _ (j : ℕ) (b : j < 64) where
    below_255 : eqb j starts_here ≡ false
    below_255 = ne_eqb j starts_here (omega arith)

    pub own_row : j ≡ i → row ≡ replicate n 131 → row ≡ map (cell_from sets codes i j) (below n)
    unfolding cell_from
    own_row e o =
        values_of _ row n (ap length o ∙ length-replicate n 131)
        (λ d l. ap (λ c. get_or c d 0) o ∙ get_or-replicate n d 131 0 l ∙ sym (pick_f _ _ _ below_255 ∙ pick_t _ _ _ (eq-eqb i j (sym e))))

    module _ (a : j ≢ i) where
      pub other_row : row ≡ map (code_from sets codes j) (below n) → row ≡ map (cell_from sets codes i j) (below n)
      unfolding cell_from
      other_row q = q ∙ values_same _ _ n (λ d h. sym (pick_f _ _ _ below_255 ∙ pick_f _ _ _ (ne_eqb i j (λ e. a (sym e)))))

      -- the row of a previous hop that is in no set is row 255
      pub same_row : length row ≡ n → has (members_of sets) j ≡ false → row ≡ take n codes → row ≡ map (cell_from sets codes i j) (below n)
      unfolding code_from
      same_row h f q =
          other_row
          (values_of _ row n h
          (λ d l. ap (λ r. get_or r d 0) q ∙ get_or-take n codes d 0 l ∙ sym (pick_f _ _ _ (All-at _ sets 0 (nowhere sets 0 j f).1 (nobody j) d))))

-- ---- the table's own cells

-- any other row differs from row 255 where the previous hop is a member of the set
code_split : (set i j d : ℕ) → set < 2 ^ 64 → (i ≡ d → set ≡ 0)
    → pick (has set j) 129 (code (entry_by (pipo set) i starts_here d)) ≡ code (entry_by (pipo set) i j d)
unfolding entry_told
code_split set i j d b own = go (ℕ_discrete i d) (ℕ_discrete set 0) (has set j) refl
  where
    none : set ≡ 0 → has set j ≡ false
    none e = ap (λ s. has s j) e ∙ nobody j

    go : Dec (i ≡ d) → Dec (set ≡ 0) → (t : Bool) → has set j ≡ t
        → pick (has set j) 129 (code (entry_by (pipo set) i starts_here d)) ≡ code (entry_by (pipo set) i j d)
    go (yes e) s t q = pick_f _ _ _ (none (own e)) ∙ ap code (sym (delivers set set i starts_here d e) ∙ delivers set set i j d e)
    go (no a) (yes s) t q = pick_f _ _ _ (none s) ∙ ap code (sym (cut_off set set i starts_here d a s) ∙ cut_off set set i j d a s)
    go (no a) (no s) true q = pick_t _ _ _ q ∙ ap code (discards set set i j d a s q)
    go (no a) (no s) false q =
        pick_f _ _ _ q
        ∙ ap code (sym (sends set set i starts_here d a s (chosen set) refl (has_below set 64 starts_here b (omega arith))) ∙ sends set set i j d a s (chosen set) refl q)

-- tables of rows are settled by their cells
rows_same : (f g : ℕ → ℕ → ℕ) (n m : ℕ) → ((j d : ℕ) → d < n → f j d ≡ g j d) → rows f n m ≡ rows g n m
unfolding rows
rows_same f g n m h = ap (λ (r : ℕ → List ℕ). flatten (map r (starts_here ∷ below m))) (λ z j. values_same (f j) (g j) n (h j) z)

module _ (t : Table) (o : Obeys t) (sets : List ℕ) (i : ℕ) (e : sets ≡ map (next_hops t i) (below 64)) where
  set_at : (d : ℕ) → d < 64 → get_or sets d 0 ≡ next_hops t i d
  set_at d h = ap (λ l. get_or l d 0) e ∙ value_at (next_hops t i) 64 d 0 h

  -- each set is a 64-bit number
  sets_small : (d : ℕ) → get_or sets d 0 < 2 ^ 64
  sets_small d = go (dec_lt d 64)
    where
      go : Dec (d < 64) → get_or sets d 0 < 2 ^ 64
      go (yes h) = rw (set_at d h) (sets_fit t o i d)
      go (no h) = rw (e, value_behind (next_hops t i) 64 d 0 (omega arith)) (omega arith)

  own_empty : i < t.routers → get_or sets i 0 ≡ 0
  own_empty h = set_at i (omega (arith, o.few_routers)) ∙ (empty_sets t o i i).1 (inl refl)

  -- the codes of row 255 are worked out, so every cell is the table's own
  module _ (codes : List ℕ) (f : codes ≡ start_codes sets i) (h : i < t.routers) where
    code_at : (d : ℕ) → d < 64 → get_or codes d 0 ≡ code_by sets i starts_here d
    unfolding start_codes
    code_at d l = ap (λ l. get_or l d 0) f ∙ value_at (code_by sets i starts_here) 64 d 0 l

    entry_at : (j d : ℕ) → d < 64 → code_by sets i j d ≡ code (entry t i j d)
    unfolding code_by
    entry_at j d l = ap code (by_set t o i j d (get_or sets d 0) (set_at d l))

    cell_at : (j d : ℕ) → d < t.routers → cell_from sets codes i j d ≡ cell t i j d
    unfolding cell_from cell code_from code_by
    cell_at j d b = go (ℕ_discrete j starts_here) (ℕ_discrete i j)
      where
        l : d < 64
        l = omega (arith, o.few_routers)

        go : Dec (j ≡ starts_here) → Dec (i ≡ j) → cell_from sets codes i j d ≡ pick (eqb i j) 131 (code (entry t i j d))
        go (yes e) v =
            pick_t _ _ _ (eq-eqb j starts_here e)
            ∙ code_at d l
            ∙ ap (λ k. code_by sets i k d) (sym e)
            ∙ entry_at j d l
            ∙ sym (pick_f _ _ _ (ne_eqb i j (λ q. omega (arith, o.few_routers))))
        go (no a) (yes e) = pick_f _ _ _ (ne_eqb j starts_here a) ∙ pick_t _ _ _ (eq-eqb i j e) ∙ sym (pick_t _ _ _ (eq-eqb i j e))
        go (no a) (no e) =
            pick_f _ _ _ (ne_eqb j starts_here a)
            ∙ pick_f _ _ _ (ne_eqb i j e)
            ∙ ap (λ c. pick (has (get_or sets d 0) j) 129 c) (code_at d l)
            ∙ code_split (get_or sets d 0) i j d (sets_small d) (λ q. ap (λ k. get_or sets k 0) (sym q) ∙ own_empty h)
            ∙ entry_at j d l
            ∙ sym (pick_f _ _ _ (ne_eqb i j e))

    whole_table : rows (cell_from sets codes i) t.routers t.routers ≡ interfaces t i
    unfolding interfaces row rows
    whole_table = rows_same (cell_from sets codes i) (cell t i) t.routers t.routers cell_at

-- the rows by the next-hop sets of an accepted table
module _ (table : List ℕ) (a : IsAccepted table) (t : Outline) (q : t ≡ outline_of table)
    (i : ℕ) (sets : List ℕ) (e : sets ≡ map (next_hops (says table) i) (below 64)) where
  own_n : t.routers ≡ (says table).routers
  own_n = ap (λ (o : Outline). o.routers) q

  pub rows_of_table : i < t.routers → (codes : List ℕ) → codes ≡ start_codes sets i → (lent out : List ℕ)
      → out ≡ rows (cell_from sets codes i) t.routers t.routers ++ drop (cells t.routers) lent
      → out ≡ interfaces (says table) i ++ drop (cells t.routers) lent
  rows_of_table h codes c lent out g =
      g
      ∙ ap (λ r. r ++ drop (cells t.routers) lent)
      (ap (λ n. rows (cell_from sets codes i) n n) own_n ∙ whole_table (says table) (obeys table a) sets i e codes c (omega (arith, own_n)))
