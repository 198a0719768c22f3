-- What a table's weights are like: small, the same both ways, between routers of the table, and each link's own.
-- Assumes nothing.
use mathlib.Core.Path.{◌≡◌, refl}
use mathlib.Core.List.{List, [], ◌∷◌, map}
use mathlib.Core.Bool.{Bool, true, false, ◌&&◌, ◌||◌, or_comm, false≢true}
use mathlib.Core.Logic.{◌≢◌, ◌⊎◌, inl, inr}
use Prim.Native.Nat.{ℕ, ◌≤◌, ◌<◌}
use native.Mathlib.Omega.{arith}
use lib.Dec.{eqb}
use borrow.Author.Tests.{eqb-true, eq-eqb}
use Rattle.rules.specs.Words.{pick, All, Rising}
use Rattle.rules.specs.Layout.{Link, Table, LinkFits, pair_number, Obeys}
use Rattle.rules.specs.Links.{joins, weight_in, weight}
use Rattle.rules.specs.Demand1.{SameEnds}
use Rattle.rules.proofs.Basics.{All-unmap, All-zip}
use Rattle.rules.proofs.CostLaws.{Net, BothWays}

either_both : (s t u v : Bool) → ((s && t) || (u && v)) ≡ true → ((s ≡ true) × (t ≡ true)) ⊎ ((u ≡ true) × (v ≡ true))
either_both true true u v e = inl (refl, refl)
either_both true false true v e = inr (refl, e)
either_both true false false v e = absurd (false≢true e)
either_both false t true v e = inr (refl, e)
either_both false t false v e = absurd (false≢true e)

pub ends_of : (l : Link) (i k : ℕ) → joins l i k ≡ true → SameEnds l.a l.b i k
ends_of l i k e = go (either_both (eqb l.a i) (eqb l.b k) (eqb l.a k) (eqb l.b i) e)
  where
    go : ((eqb l.a i ≡ true) × (eqb l.b k ≡ true)) ⊎ ((eqb l.a k ≡ true) × (eqb l.b i ≡ true)) → SameEnds l.a l.b i k
    go (inl (s, t)) = inl (eqb-true l.a i s, eqb-true l.b k t)
    go (inr (s, t)) = inr (eqb-true l.a k s, eqb-true l.b i t)

pub weight_both_ways : (ls : List Link) → BothWays (weight_in ls)
unfolding weight_in
weight_both_ways [] i k = refl
weight_both_ways (l ∷ ls) i k = rw (or_comm (eqb l.a i && eqb l.b k) (eqb l.a k && eqb l.b i), weight_both_ways ls i k)

module _ (n : ℕ) where
  weight_small : (ls : List Link) → All (LinkFits n) ls → (i k : ℕ) → weight_in ls i k ≤ 65535
  unfolding weight_in
  weight_small [] h i k = omega arith
  weight_small (l ∷ ls) h i k = go (joins l i k) (weight_small ls h.1 i k)
    where
      go : (t : Bool) → weight_in ls i k ≤ 65535 → pick t l.weight (weight_in ls i k) ≤ 65535
      go true e = h.0.weight_fits
      go false e = e

  weight_inside : (ls : List Link) → All (LinkFits n) ls → (i k : ℕ) → 0 < weight_in ls i k → (i < n) × (k < n)
  unfolding weight_in
  weight_inside [] h i k p = absurd (omega arith)
  weight_inside (l ∷ ls) h i k p = go (joins l i k) refl (weight_inside ls h.1 i k) p
    where
      far : SameEnds l.a l.b i k → (i < n) × (k < n)
      far (inl s) = omega (arith, h.0)
      far (inr s) = omega (arith, h.0)

      go : (t : Bool) → joins l i k ≡ t → (0 < weight_in ls i k → (i < n) × (k < n)) → 0 < pick t l.weight (weight_in ls i k) → (i < n) × (k < n)
      go true e ih p = far (ends_of l i k e)
      go false e ih p = ih p

  -- links of different pairs have different ends
  pub other : (l m : Link) → LinkFits n l → LinkFits n m → pair_number l ≢ pair_number m → joins l m.a m.b ≡ false
  other l m f g h = go (joins l m.a m.b) refl
    where
      clash : SameEnds l.a l.b m.a m.b → ⊥
      clash (inl s) = h (omega arith)
      clash (inr s) = omega arith

      go : (t : Bool) → joins l m.a m.b ≡ t → t ≡ false
      go true e = absurd (clash (ends_of l m.a m.b e))
      go false e = refl

  -- each link of a table has its own weight
  pub own : (ls : List Link) → All (LinkFits n) ls → Rising (map pair_number ls) → All (λ m. weight_in ls m.a m.b ≡ m.weight) ls
  unfolding weight_in
  own [] f r = tt
  own (l ∷ ls) f r = (
    rw (eq-eqb l.a l.a refl, eq-eqb l.b l.b refl),
    All-zip later ls (All-zip (λ m g (h : pair_number l < pair_number m). other l m f.0 g (omega arith)) ls f.1 (All-unmap (λ x. pair_number l < x) pair_number ls r.0)) (own ls f.1 r.1),
  )
    where
      later : (m : Link) → joins l m.a m.b ≡ false → weight_in ls m.a m.b ≡ m.weight
          → pick (joins l m.a m.b) l.weight (weight_in ls m.a m.b) ≡ m.weight
      later m g h = rw g h

-- the weights of a table that obeys the layout
pub net : (t : Table) → Obeys t → Net t.routers (weight t)
net t o = record {
  few = o.few_routers;
  inside = weight_inside t.routers t.links o.links_fit;
  small = weight_small t.routers t.links o.links_fit;
}

-- the same among 64 routers
pub wide : (t : Table) → Obeys t → Net 64 (weight t)
wide t o = record {
  few = omega arith;
  inside = λ i k l. omega (arith, (net t o).inside i k l, o.few_routers);
  small = (net t o).small;
}

pub both_ways : (t : Table) → BothWays (weight t)
both_ways t = weight_both_ways t.links
