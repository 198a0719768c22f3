-- How many links differ, along two lists of links in rising order: the lower of the two links in front is in one list only, and two links of one pair
-- differ by their weights.
-- Assumes nothing.
use mathlib.Core.Path.{◌≡◌, refl, sym, ap}
use mathlib.Core.Bool.{not}
use mathlib.Core.List.{List, [], ◌∷◌, map}
use Prim.Native.Nat.{ℕ, ◌+◌, ◌≤◌, ◌<◌}
use native.Mathlib.Decide.{ℕ_discrete}
use native.Mathlib.Omega.{arith}
use lib.Dec.{eqb}
use lib.ListN.{length}
use borrow.Author.Tests.{eq-eqb, ne_eqb}
use Rattle.std.specs.Int.{from_bool}
use Rattle.rules.specs.Words.{pick, tally, All, Rising}
use Rattle.rules.specs.Layout.{Link, Table, LinkFits, pair_number, Obeys}
use Rattle.rules.specs.Links.{weight_in}
use Rattle.rules.specs.Pairs.{differing}
use Rattle.rules.proofs.Basics.{All-map, All-zip, All-unmap, tally_same, tally_at_most}
use Rattle.rules.proofs.Weights.{other}

-- 1 where two weights differ, else 0
abbrev pub differ_by : ℕ → ℕ → ℕ
differ_by old new = from_bool (not (eqb old new))

-- ---- links in rising order

-- every link's pair is above this number
abbrev pub Above : ℕ → List Link → Type 0
Above k = All (λ m. k < pair_number m)

-- every link fits a table, and the pairs rise
abbrev pub Ordered : List Link → Type 0
Ordered [] = Unit {0}
Ordered (l ∷ ls) = LinkFits 64 l × Above (pair_number l) ls × Ordered ls

pub ordered : (t : Table) → Obeys t → Ordered t.links
ordered t o = go t.links o.links_fit o.links_rise
  where
    wide : (l : Link) → LinkFits t.routers l → LinkFits 64 l
    wide l f = record {
      ends_rise = f.ends_rise;
      end_below = omega (arith, o.few_routers, f.end_below);
      weight_above_0 = f.weight_above_0;
      weight_fits = f.weight_fits;
    }

    go : (ls : List Link) → All (LinkFits t.routers) ls → Rising (map pair_number ls) → Ordered ls
    go [] f r = tt
    go (l ∷ ls) f r = (wide l f.0, All-unmap (λ x. pair_number l < x) pair_number ls r.0, go ls f.1 r.1)

all_fit : (ls : List Link) → Ordered ls → All (LinkFits 64) ls
all_fit [] o = tt
all_fit (l ∷ ls) o = (o.0, all_fit ls o.2)

-- a link below the first is below them all
pub below_all : (k : ℕ) (l : Link) (ls : List Link) → Ordered (l ∷ ls) → k < pair_number l → Above k (l ∷ ls)
below_all k l ls o h = (h, All-map (λ m g. omega arith) ls o.1)

-- ---- the weight at the ends of another link

-- a link of a lower pair adds nothing at the ends of the others
passed : (l : Link) (ls ms : List Link) → LinkFits 64 l → Ordered ms → Above (pair_number l) ms
    → All (λ m. weight_in (l ∷ ls) m.a m.b ≡ weight_in ls m.a m.b) ms
unfolding weight_in
passed l ls ms f o h = All-zip one ms (all_fit ms o) h
  where
    one : (m : Link) → LinkFits 64 m → pair_number l < pair_number m → weight_in (l ∷ ls) m.a m.b ≡ weight_in ls m.a m.b
    one m g k = rw (other 64 l m f g (omega arith))

-- nor do they at its own ends
missing : (l : Link) (ms : List Link) → LinkFits 64 l → Ordered ms → Above (pair_number l) ms → weight_in ms l.a l.b ≡ 0
unfolding weight_in
missing l [] f o h = refl
missing l (m ∷ ms) f o h = rw (other 64 m l o.0 f (omega arith)) (missing l ms f o.2 h.1)

-- the weight at the ends of the first link, by its pair
present : (l m : Link) (ms : List Link) → LinkFits 64 l → LinkFits 64 m → pair_number l ≡ pair_number m → weight_in (m ∷ ms) l.a l.b ≡ m.weight
unfolding weight_in
present l m ms f g e = rw (eq-eqb m.a l.a (omega arith), eq-eqb m.b l.b (omega arith))

-- ---- how many differ

-- the two counts of `differing`, over lists of links
changed : List Link → List Link → ℕ
changed os ns = tally (λ l. not (eqb (weight_in ns l.a l.b) l.weight)) os

added : List Link → List Link → ℕ
added os ns = tally (λ l. eqb (weight_in os l.a l.b) 0) ns

-- how many links are in one list only or have another weight
pub differ_in : List Link → List Link → ℕ
differ_in os ns = changed os ns + added os ns

pub differ_in_tables : (old new : Table) → differing old new ≡ differ_in old.links new.links
unfolding differing differ_in changed added
differ_in_tables old new = refl

pub differ_at_most : (os ns : List Link) → differ_in os ns ≤ length os + length ns
unfolding differ_in changed added
differ_at_most os ns =
    omega (arith, tally_at_most (λ l. not (eqb (weight_in ns l.a l.b) l.weight)) os, tally_at_most (λ l. eqb (weight_in os l.a l.b) 0) ns)

pub differ_in_none : differ_in [] [] ≡ 0
unfolding differ_in changed added tally
differ_in_none = refl

-- a link of a lower pair in the other list changes nothing
changed_passed : (n : Link) (os ns : List Link) → LinkFits 64 n → Ordered os → Above (pair_number n) os → changed os (n ∷ ns) ≡ changed os ns
unfolding changed
changed_passed n os ns f o h = tally_same _ _ os (All-map (λ l e. ap (λ w. not (eqb w l.weight)) e) os (passed n ns os f o h))

added_passed : (o : Link) (os ns : List Link) → LinkFits 64 o → Ordered ns → Above (pair_number o) ns → added (o ∷ os) ns ≡ added os ns
unfolding added
added_passed o os ns f n h = tally_same _ _ ns (All-map (λ l e. ap (λ w. eqb w 0) e) ns (passed o os ns f n h))

-- the first link, by the weight that the other list has at its ends
changed_first : (o : Link) (os ns : List Link) (w : ℕ) → weight_in ns o.a o.b ≡ w → changed (o ∷ os) ns ≡ differ_by o.weight w + changed os ns
unfolding changed tally
changed_first o os ns w e = rw e (go (ℕ_discrete o.weight w))
  where
    go : Dec (o.weight ≡ w) → pick (not (eqb w o.weight)) 1 0 + changed os ns ≡ differ_by o.weight w + changed os ns
    go (yes q) = rw (eq-eqb o.weight w q, eq-eqb w o.weight (sym q))
    go (no q) = rw (ne_eqb o.weight w q, ne_eqb w o.weight (omega arith))

added_first : (n : Link) (os ns : List Link) (w : ℕ) → weight_in os n.a n.b ≡ w → added os (n ∷ ns) ≡ pick (eqb w 0) 1 0 + added os ns
unfolding added tally
added_first n os ns w e = rw e

-- the first link of the old list is below all of the new: it is missing there
pub old_only : (o : Link) (os ns : List Link) → LinkFits 64 o → Ordered ns → Above (pair_number o) ns → differ_in (o ∷ os) ns ≡ 1 + differ_in os ns
unfolding differ_in
old_only o os ns f n h =
    let one : changed (o ∷ os) ns ≡ 1 + changed os ns = rw (changed_first o os ns 0 (missing o ns f n h), ne_eqb o.weight 0 (omega arith)) in
    omega (arith, added_passed o os ns f n h)

-- the other way round
pub new_only : (n : Link) (os ns : List Link) → LinkFits 64 n → Ordered os → Above (pair_number n) os → differ_in os (n ∷ ns) ≡ 1 + differ_in os ns
unfolding differ_in
new_only n os ns f o h = omega (arith, added_first n os ns 0 (missing n os f o h), changed_passed n os ns f o h)

-- one pair in front of both: its link differs where the weights do
pub in_both : (o n : Link) (os ns : List Link) → Ordered (o ∷ os) → Ordered (n ∷ ns) → pair_number o ≡ pair_number n
    → differ_in (o ∷ os) (n ∷ ns) ≡ differ_by o.weight n.weight + differ_in os ns
unfolding differ_in
in_both o n os ns p q e =
    let none : added (o ∷ os) (n ∷ ns) ≡ added (o ∷ os) ns =
    rw (added_first n (o ∷ os) ns o.weight (present n o os q.0 p.0 (sym e)), ne_eqb o.weight 0 (omega arith)) (omega arith)
    in
    omega (
      arith,
      changed_first o os (n ∷ ns) n.weight (present o n ns p.0 q.0 e),
      changed_passed n os ns q.0 p.2 (rw e at p.1),
      added_passed o os ns p.0 q.2 (rw (sym e) at q.1),
    )
