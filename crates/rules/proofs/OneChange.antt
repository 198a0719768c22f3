-- Two tables differ in one link at most exactly if any two pairs of routers whose weights differ are the ends of one link.
-- Assumes nothing.
use mathlib.Core.Path.{◌≡◌, refl, sym, ◌∙◌, ap}
use mathlib.Core.Logic.{◌≢◌, ◌⊎◌, inl, inr}
use mathlib.Core.Bool.{Bool, true, false, not}
use mathlib.Core.List.Memᴰ
use mathlib.Core.List.{List, [], ◌∷◌, Memᴰ, map}
use Prim.Native.Nat.{ℕ, ◌+◌, ◌≤◌, ◌<◌}
use native.Mathlib.Decide.{ℕ_discrete, dec_lt}
use native.Mathlib.Omega.{arith}
use lib.Dec.{eqb}
use borrow.Author.Tests.{eqb-true, eqb-false, not-true, eq-eqb, ne_eqb}
use Rattle.rules.specs.Words.{pick, tally, Rising}
use Rattle.rules.specs.Layout.{Link, Table, LinkFits, pair_number, Obeys}
use Rattle.rules.specs.Links.{joins, weight_in, weight}
use Rattle.rules.specs.Pairs.{differing}
use Rattle.rules.specs.Demand1.{SameEnds, OneChange, DiffersExactly, NoneDiffers}
use Rattle.rules.specs.Demand3.{Together}
use Rattle.rules.proofs.Basics.{All-listed}
use Rattle.rules.proofs.Weights.{ends_of, weight_both_ways, own}

-- ---- counting the links that pass a test

module _ (p : Link → Bool) where
  -- a link that passes is counted
  some : (ls : List Link) (l : Link) → Memᴰ l ls → p l ≡ true → 0 < tally p ls
  unfolding tally
  some [] l m e = elim m [ ]
  some (k ∷ ls) l (Memᴰ.head q) e = rw (← ap p q, e) (omega arith)
  some (k ∷ ls) l (Memᴰ.tail m) e = omega (arith, some ls l m e)

  -- a link that passes and one counted behind it are two
  two : (k : Link) (n : ℕ) → p k ≡ true → 0 < n → pick (p k) 1 0 + n ≤ 1 → ⊥
  two k n e f h = let h' : 1 + n ≤ 1 = rw e at h in omega arith

  -- where one is counted at most, two links that pass are one
  only : (ls : List Link) (l m : Link) → Memᴰ l ls → Memᴰ m ls → p l ≡ true → p m ≡ true → tally p ls ≤ 1 → l ≡ m
  unfolding tally
  only [] l m i j s t h = elim i [ ]
  only (k ∷ ls) l m (Memᴰ.head q) (Memᴰ.head r) s t h = q ∙ sym r
  only (k ∷ ls) l m (Memᴰ.head q) (Memᴰ.tail j) s t h = absurd (two k (tally p ls) (rw q at s) (some ls m j t) h)
  only (k ∷ ls) l m (Memᴰ.tail i) (Memᴰ.head r) s t h = absurd (two k (tally p ls) (rw r at t) (some ls l i s) h)
  only (k ∷ ls) l m (Memᴰ.tail i) (Memᴰ.tail j) s t h = only ls l m i j s t (omega arith)

  -- a listed link that passes
  abbrev Passing : List Link → Type 0
  Passing ls = (l : Link) × Memᴰ l ls × (p l ≡ true)

  -- where one is counted, a listed link passes
  passing : (ls : List Link) → 0 < tally p ls → Passing ls
  unfolding tally
  passing [] h = absurd (omega arith)
  passing (k ∷ ls) h = go (p k) refl (passing ls) h
    where
      go : (t : Bool) → p k ≡ t → (0 < tally p ls → Passing ls) → 0 < pick t 1 0 + tally p ls → Passing (k ∷ ls)
      go true e ih h = (k, Memᴰ.head refl, e)
      go false e ih h = let (l, m, s) = ih (omega arith) in (l, Memᴰ.tail m, s)

  -- where the links that pass have one pair, one is counted at most, because the pairs rise
  one_pair : (ls : List Link) → Rising (map pair_number ls)
      → ((l m : Link) → Memᴰ l ls → Memᴰ m ls → p l ≡ true → p m ≡ true → pair_number l ≡ pair_number m) → tally p ls ≤ 1
  unfolding tally
  one_pair [] r same = omega arith
  one_pair (k ∷ ls) r same = go (p k) refl (dec_lt 0 (tally p ls)) (one_pair ls r.1 (λ l m i j. same l m (Memᴰ.tail i) (Memᴰ.tail j)))
    where
      go : (t : Bool) → p k ≡ t → Dec (0 < tally p ls) → tally p ls ≤ 1 → pick t 1 0 + tally p ls ≤ 1
      go true e (yes h) ih =
          let (m, i, s) = passing ls h in
          let higher : pair_number k < pair_number m = All-listed (λ x. pair_number k < x) (map pair_number ls) r.0 (pair_number m) (Memᴰ.map pair_number i) in
          absurd (omega (arith, same k m (Memᴰ.head refl) (Memᴰ.tail i) e s))
      go true e (no h) ih = omega arith
      go false e d ih = omega arith

-- ---- the link between i and k

record Found (ls : List Link) (i k : ℕ) : Type 0 where
  which : Link
  listed : Memᴰ which ls
  ends : SameEnds which.a which.b i k

-- where the weight is not 0, a listed link runs between i and k
find : (ls : List Link) (i k : ℕ) → 0 < weight_in ls i k → Found ls i k
unfolding weight_in
find [] i k h = absurd (omega arith)
find (l ∷ ls) i k h = go (joins l i k) refl (find ls i k) h
  where
    go : (t : Bool) → joins l i k ≡ t → (0 < weight_in ls i k → Found ls i k) → 0 < pick t l.weight (weight_in ls i k) → Found (l ∷ ls) i k
    go true e ih h = record { which = l; listed = Memᴰ.head refl; ends = ends_of l i k e }
    go false e ih h = let f = ih h in record { which = f.which; listed = Memᴰ.tail f.listed; ends = f.ends }

-- the weight between a link's ends, whichever way they are named
at_ends : (ls : List Link) (l : Link) (i k : ℕ) → SameEnds l.a l.b i k → weight_in ls l.a l.b ≡ weight_in ls i k
at_ends ls l i k (inl (p, q)) = rw (p, q)
at_ends ls l i k (inr (p, q)) = rw (p, q) (weight_both_ways ls k i)

-- one link has one pair of ends
same_ends : (l m : Link) (i k a b : ℕ) → l ≡ m → SameEnds l.a l.b i k → SameEnds m.a m.b a b → SameEnds a b i k
same_ends l m i k a b e (inl (p, q)) (inl (r, s)) = inl (omega (arith, ap (λ l. l.a) e), omega (arith, ap (λ l. l.b) e))
same_ends l m i k a b e (inl (p, q)) (inr (r, s)) = inr (omega (arith, ap (λ l. l.b) e), omega (arith, ap (λ l. l.a) e))
same_ends l m i k a b e (inr (p, q)) (inl (r, s)) = inr (omega (arith, ap (λ l. l.a) e), omega (arith, ap (λ l. l.b) e))
same_ends l m i k a b e (inr (p, q)) (inr (r, s)) = inl (omega (arith, ap (λ l. l.b) e), omega (arith, ap (λ l. l.a) e))

-- two links whose ends rise and are the same have one pair
same_pair : (n : ℕ) (l m : Link) → LinkFits n l → LinkFits n m → SameEnds l.a l.b m.a m.b → pair_number l ≡ pair_number m
same_pair n l m f g (inl e) = omega arith
same_pair n l m f g (inr e) = omega arith

-- ---- the links of a table that obeys the layout

module _ {t : Table} (o : Obeys t) (l : Link) (m : Memᴰ l t.links) where
  fits : LinkFits t.routers l
  fits = All-listed (LinkFits t.routers) t.links o.links_fit l m

  own_weight : weight t l.a l.b ≡ l.weight
  own_weight =
      All-listed (λ l. weight t l.a l.b ≡ l.weight) t.links (own t.routers t.links o.links_fit o.links_rise) l m

-- ---- the links that differ

module _ (old new : Table) (o : Obeys old) where
  -- the two tests of `differing`
  changed : Link → Bool
  changed l = not (eqb (weight new l.a l.b) l.weight)

  added : Link → Bool
  added l = eqb (weight old l.a l.b) 0

  -- a link of the old table that the new one has not so, or one of the new table that the old one has not
  abbrev Counted : ℕ → ℕ → Type 0
  Counted i k = ((g : Found old.links i k) × (changed g.which ≡ true)) ⊎ ((g : Found new.links i k) × (added g.which ≡ true))

  -- two routers whose weights differ are the ends of a counted link
  counted : (i k : ℕ) → weight old i k ≢ weight new i k → Counted i k
  unfolding changed added
  counted i k h = go (dec_lt 0 (weight old i k))
    where
      go : Dec (0 < weight old i k) → Counted i k
      go (yes z) =
          let g = find old.links i k z in
          let d : weight new g.which.a g.which.b ≢ g.which.weight =
          omega (
            arith,
            own_weight o g.which g.listed,
            at_ends old.links g.which i k g.ends,
            at_ends new.links g.which i k g.ends,
          )
          in
          inl (g, rw (ne_eqb (weight new g.which.a g.which.b) g.which.weight d))
      go (no z) =
          let g = find new.links i k (omega arith) in
          inr (g, eq-eqb (weight old g.which.a g.which.b) 0 (omega (arith, at_ends old.links g.which i k g.ends)))

  -- at most one link differs: any two pairs of routers whose weights differ are the ends of one link
  one_of_few : differing old new ≤ 1 → OneChange (weight old) (weight new)
  unfolding differing changed added
  one_of_few few i k a b p q = go (omega arith) (counted i k p) (counted a b q)
    where
      go : tally changed old.links + tally added new.links ≤ 1 → Counted i k → Counted a b → SameEnds a b i k
      go h (inl (g, s)) (inl (f, t)) =
          same_ends g.which f.which i k a b (only changed old.links g.which f.which g.listed f.listed s t (omega arith)) g.ends f.ends
      go h (inr (g, s)) (inr (f, t)) =
          same_ends g.which f.which i k a b (only added new.links g.which f.which g.listed f.listed s t (omega arith)) g.ends f.ends
      go h (inl (g, s)) (inr (f, t)) =
          absurd (omega (arith, some changed old.links g.which g.listed s, some added new.links f.which f.listed t))
      go h (inr (g, s)) (inl (f, t)) =
          absurd (omega (arith, some added new.links g.which g.listed s, some changed old.links f.which f.listed t))

  -- between the ends of this link the tables have different weights; so it is with every counted link
  abbrev Differs : Link → Type 0
  Differs l = weight old l.a l.b ≢ weight new l.a l.b

  changed_differs : (l : Link) → Memᴰ l old.links → changed l ≡ true → Differs l
  unfolding changed
  changed_differs l m e same =
      eqb-false (weight new l.a l.b) l.weight (not-true (eqb (weight new l.a l.b) l.weight) e) (sym same ∙ own_weight o l m)

  added_differs : Obeys new → (l : Link) → Memᴰ l new.links → added l ≡ true → Differs l
  unfolding added
  added_differs n l m e = omega (arith, eqb-true (weight old l.a l.b) 0 e, own_weight n l m, fits n l m)

  -- no link differs: every two routers have the same weight
  same_of_none : differing old new ≡ 0 → (i k : ℕ) → weight old i k ≡ weight new i k
  unfolding differing changed added
  same_of_none none i k = go (omega arith) (ℕ_discrete (weight old i k) (weight new i k))
    where
      go : tally changed old.links + tally added new.links ≡ 0 → Dec (weight old i k ≡ weight new i k) → weight old i k ≡ weight new i k
      go h (yes e) = e
      go h (no e) = elim (counted i k e) [
        | inl (g, s) ↦ absurd (omega (arith, some changed old.links g.which g.listed s))
        | inr (g, s) ↦ absurd (omega (arith, some added new.links g.which g.listed s))
      ]

  none_of_same : Obeys new → ((i k : ℕ) → weight old i k ≡ weight new i k) → differing old new ≡ 0
  unfolding differing changed added
  none_of_same n same = omega (arith, none changed old changed_differs, none added new (added_differs n))
    where
      none : (p : Link → Bool) (t : Table) → ((l : Link) → Memᴰ l t.links → p l ≡ true → Differs l) → tally p t.links ≡ 0
      none p t differs = elim (dec_lt 0 (tally p t.links)) [
        | yes h ↦ let (l, m, e) = passing p t.links h in absurd (differs l m e (same l.a l.b))
        | no h ↦ omega arith
      ]

  module _ (n : Obeys new) (once : OneChange (weight old) (weight new)) where
    -- of one table's links, one is counted at most
    one_counted : (p : Link → Bool) (t : Table) → Obeys t → ((l : Link) → Memᴰ l t.links → p l ≡ true → Differs l) → tally p t.links ≤ 1
    one_counted p t 𝓞 differs =
        one_pair p t.links 𝓞.links_rise
        (λ l m i j e f. same_pair t.routers l m (fits 𝓞 l i) (fits 𝓞 m j) (once m.a m.b l.a l.b (differs m j f) (differs l i e)))

    -- not a link of each table: the two would have the same ends, and the old table has the one and not the other
    not_both : Passing changed old.links → Passing added new.links → ⊥
    unfolding added
    not_both (l, i, e) (m, j, f) =
        omega (
          arith,
          eqb-true (weight old m.a m.b) 0 f,
          at_ends old.links l m.a m.b (once m.a m.b l.a l.b (added_differs n m j f) (changed_differs l i e)),
          own_weight o l i,
          fits o l i,
        )

    -- any two pairs of routers whose weights differ are the ends of one link: at most one link differs
    few_of_one : differing old new ≤ 1
    unfolding differing changed added
    few_of_one = omega (arith, go (dec_lt 0 (tally changed old.links)) (dec_lt 0 (tally added new.links)))
      where
        go : Dec (0 < tally changed old.links) → Dec (0 < tally added new.links) → tally changed old.links + tally added new.links ≤ 1
        go (yes h) (yes h') = absurd (not_both (passing changed old.links h) (passing added new.links h'))
        go (yes h) (no h') = omega (arith, one_counted changed old o changed_differs)
        go (no h) d = omega (arith, one_counted added new n (added_differs n))

pub one_change : {old new : Table} → Together old new → OneChange (weight old) (weight new)
one_change {old} {new} 𝓣 = one_of_few old new 𝓣.old_obeys 𝓣.one_link

pub differs_exactly : DiffersExactly
differs_exactly old new o n = (one_of_few old new o, few_of_one old new o n)

pub none_differs : NoneDiffers
none_differs old new o n = (same_of_none old new o, none_of_same old new o n)
