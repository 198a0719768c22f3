-- Sets of routers as numbers: their bits, their lowest member, their size; and what the next-hop set of a table holds.
-- Assumes nothing.
use mathlib.Core.List.{[], ◌∷◌}
use mathlib.Core.Path.{◌≡◌, refl, sym, ◌∙◌, ap}
use mathlib.Core.Logic.{◌⊎◌, inl, inr, ◌↔◌}
use mathlib.Core.Bool.{Bool, true, false, false≢true}
use Prim.Native.Nat.{ℕ, zero, suc, ◌+◌, ◌-◌, ◌*◌, ◌/◌, ◌%◌, ◌^◌, ◌≤◌, ◌<◌}
use native.Mathlib.Nat.{zero-add, mod-eq_of_lt, div-eq_of_lt, le_antisymm, lt_of_lt_of_le, div-one}
use native.Mathlib.Decide.{ℕ_discrete, dec_lt}
use native.Mathlib.Omega.{arith}
use lib.Dec.{eqb, ltb}
use lib.ListN.{length, length-append}
use lib.Count as C
use lib.Count.{ones, count_trailing_zeros, ones_in, ones_cat}
use lib.Pow.{pow_mono, shr-shr, high, low, mod-pow-add, mod-mod-pow, field}
use borrow.Author.Tests.{eqb-true, eq-eqb, ltb-true, lt-ltb}
use Rattle.rules.specs.Words.{pick, those, below}
use Rattle.rules.specs.Layout.{Table, Obeys}
use Rattle.rules.specs.Links.{weight}
use Rattle.rules.specs.Costs.{no_cost, cost}
use Rattle.rules.specs.NextHops.{has, members, set_of, chosen, size, leads, next_hops}
use Rattle.rules.specs.Demand2.{SetsHaveNeighbours, EmptySets, SetsFit, ChosenByBits}
use Rattle.rules.proofs.Basics.{both, those_append, first_of_those}
use Rattle.rules.proofs.CostLaws.{Next, Costs, next_finite}
use Rattle.rules.proofs.Weights.{net}
use Rattle.rules.proofs.LeastCost.{cost_laws}

-- ---- a set that is made of a test

module _ (p : ℕ → Bool) where
  -- the highest router's bit, and the others
  set_top : (n : ℕ) → set_of p (suc n) ≡ pick (p n) 1 0 * 2 ^ n + set_of p n
  unfolding set_of
  set_top n = go (p n)
    where
      go : (t : Bool) → pick t (2 ^ n) 0 + set_of p n ≡ pick t 1 0 * 2 ^ n + set_of p n
      go true = omega arith
      go false = omega arith

  pub set_below : (n : ℕ) → set_of p n < 2 ^ n
  unfolding set_of
  set_below zero = omega arith
  set_below (suc n) = go (p n) (set_below n)
    where
      go : (t : Bool) → set_of p n < 2 ^ n → pick t (2 ^ n) 0 + set_of p n < 2 ^ suc n
      go true h = omega arith
      go false h = omega arith

  -- its bits below m are the set of the routers below m
  set_low : (m more : ℕ) → set_of p (more + m) % 2 ^ m ≡ set_of p m
  set_low m zero = rw (zero-add m) (mod-eq_of_lt (set_below m))
  set_low m (suc more) =
      let e : suc more + m ≡ suc (more + m) = omega arith in
      let q = pick {A = ℕ} (p (more + m)) 1 0 * 2 ^ (more + m) + set_of p (more + m) in
      rw (e, set_top (more + m))
      (sym (mod-mod-pow q more m) ∙ ap (λ x. x % 2 ^ m) (low (pick (p (more + m)) 1 0) (more + m) (set_below (more + m))) ∙ set_low m more)

  set_digit : (n k : ℕ) → k < n → set_of p n / 2 ^ k % 2 ≡ pick (p k) 1 0
  set_digit n k h =
      let e : n ≡ (n - suc k) + suc k = omega arith in
      let o : 1 + k ≡ suc k = omega arith in
      let s = set_of p (n - suc k + suc k) in
      rw e (
      sym (field s 1 k)
      ∙ ap (λ x. s % 2 ^ x / 2 ^ k) o
      ∙ ap (λ x. x / 2 ^ k) (set_low (suc k) (n - suc k) ∙ set_top k)
      ∙ high (pick (p k) 1 0) k (set_below k)
      )

  -- a router below n is in the set exactly if it passes the test
  pub set_has : (n k : ℕ) → k < n → has (set_of p n) k ≡ p k
  unfolding has
  set_has n k h = rw (set_digit n k h) (go (p k))
    where
      go : (t : Bool) → eqb (pick t 1 0) 1 ≡ t
      go true = refl
      go false = refl

  -- its ones are the routers that pass
  set_ones : (n : ℕ) → ones (set_of p n) ≡ length (those p (below n))
  unfolding set_of below those ones ones_in
  set_ones zero = refl
  set_ones (suc n) =
      rw (those_append p (below n) (n ∷ []), length-append (those p (below n)) (those p (n ∷ []))) (go (p n) (set_ones n))
    where
      go : (t : Bool) → ones (set_of p n) ≡ length (those p (below n))
          → ones (pick t (2 ^ n) 0 + set_of p n) ≡ length (those p (below n)) + length (pick t (n ∷ []) [])
      go false ih = rw (zero-add (set_of p n)) (omega arith)
      go true ih =
          let e : 2 ^ n + set_of p n ≡ 1 * 2 ^ n + set_of p n = omega arith in
          rw e (omega (arith, ones_cat n 1 (set_of p n) (set_below n)))

  -- a set that no router is in
  pub set_none : ((k : ℕ) → p k ≡ false) → (n : ℕ) → set_of p n ≡ 0
  unfolding set_of
  set_none h zero = refl
  set_none h (suc n) = rw (h n, set_none h n)

-- ---- any number as a set

-- the members below n are the n lowest digits
pub has_all : (set n : ℕ) → set_of (has set) n ≡ set % 2 ^ n
unfolding set_of has
has_all set zero = omega arith
has_all set (suc n) =
    let o : 1 + n ≡ suc n = omega arith in
    let m : set % 2 ^ suc n ≡ set / 2 ^ n % 2 * 2 ^ n + set % 2 ^ n = rw o at (mod-pow-add set 1 n) in
    rw (m, has_all set n) (go (set / 2 ^ n % 2) refl)
  where
    go : (b : ℕ) → set / 2 ^ n % 2 ≡ b → pick (eqb b 1) (2 ^ n) 0 + set % 2 ^ n ≡ b * 2 ^ n + set % 2 ^ n
    go zero e = omega arith
    go (suc zero) e = omega arith
    go (suc (suc b)) e = absurd (omega arith)

-- no router beyond the digits is in it
pub has_below : (set n k : ℕ) → set < 2 ^ n → n ≤ k → has set k ≡ false
unfolding has
has_below set n k h l =
    let b : set < 2 ^ k = lt_of_lt_of_le h (pow_mono l) in
    rw (div-eq_of_lt b)

-- half a number has the members of the number, each one lower
pub half : (set z : ℕ) → has set (suc z) ≡ has (set / 2) z
unfolding has
half set z =
    let o : 1 + z ≡ suc z = omega arith in
    let e : set / 2 / 2 ^ z ≡ set / 2 ^ suc z = rw o at (shr-shr set 1 z) in
    rw e

-- router 0 is the lowest digit
pub lowest_digit : (set : ℕ) → has set 0 ≡ eqb (set % 2) 1
unfolding has
lowest_digit set = rw (div-one set)

-- the trailing zeros are the lowest member
pub trailing : (m set : ℕ) → 0 < set → set < 2 ^ m
    → (has set (count_trailing_zeros m set) ≡ true) × ((k : ℕ) → has set k ≡ true → count_trailing_zeros m set ≤ k)
unfolding count_trailing_zeros
trailing zero set s b = absurd (omega arith)
trailing (suc m) set s b = go (set % 2) refl (trailing m (set / 2))
  where
    go : (d : ℕ) → set % 2 ≡ d
        → (0 < set / 2 → set / 2 < 2 ^ m
        → (has (set / 2) (count_trailing_zeros m (set / 2)) ≡ true) × ((k : ℕ) → has (set / 2) k ≡ true → count_trailing_zeros m (set / 2) ≤ k))
        → (has set (C.under d (count_trailing_zeros m (set / 2))) ≡ true) × ((k : ℕ) → has set k ≡ true → C.under d (count_trailing_zeros m (set / 2)) ≤ k)
    go zero e ih =
        let h = ih (omega arith) (omega arith) in
        (half set (count_trailing_zeros m (set / 2)) ∙ h.0, lower)
      where
        lower : (k : ℕ) → has set k ≡ true → suc (count_trailing_zeros m (set / 2)) ≤ k
        lower zero q = absurd (false≢true (sym (lowest_digit set ∙ ap (λ d. eqb d 1) e) ∙ q))
        lower (suc k) q = omega (arith, (ih (omega arith) (omega arith)).1 k (sym (half set k) ∙ q))
    go (suc zero) e ih = (lowest_digit set ∙ ap (λ d. eqb d 1) e, λ k q. omega arith)
    go (suc (suc d)) e ih = absurd (omega arith)

-- a set that no router is in
no_bits : (set n : ℕ) → set < 2 ^ n → ((k : ℕ) → has set k ≡ false) → set ≡ 0
no_bits set n b h = sym (mod-eq_of_lt b) ∙ sym (has_all set n) ∙ set_none (has set) h n

-- ---- the theorems

-- a member is below 64
pub member_below : (set k : ℕ) → set < 2 ^ 64 → has set k ≡ true → k < 64
member_below set k b e = go (dec_lt k 64)
  where
    go : Dec (k < 64) → k < 64
    go (yes l) = l
    go (no l) = absurd (false≢true (sym (has_below set 64 k b (omega arith)) ∙ e))

-- the chosen hop is a member where there is one, and none is lower
pub chosen_member : (set k : ℕ) → set < 2 ^ 64 → has set k ≡ true → (has set (chosen set) ≡ true) × (chosen set ≤ k)
unfolding chosen members
chosen_member set k b e =
    let (l, m, low) = first_of_those (has set) 64 k 255 (member_below set k b e) e in
    (m, low)

some_member : (set : ℕ) → set < 2 ^ 64 → 0 < set → has set (chosen set) ≡ true
some_member set b s = go (has set (chosen set)) refl
  where
    none : has set (chosen set) ≡ false → (k : ℕ) (t : Bool) → has set k ≡ t → t ≡ false
    none f k true e = sym (chosen_member set k b e).0 ∙ f
    none f k false e = refl

    go : (t : Bool) → has set (chosen set) ≡ t → t ≡ true
    go true e = refl
    go false e = absurd (omega (arith, no_bits set 64 b (λ k. none e k (has set k) refl)))

first_member : (set : ℕ) → set < 2 ^ 64 → 0 < set → chosen set ≡ count_trailing_zeros 64 set
first_member set b s =
    let t = trailing 64 set s b in
    le_antisymm (chosen_member set (count_trailing_zeros 64 set) b t.0).1 (t.1 (chosen set) (some_member set b s))

all_members : (set : ℕ) → set < 2 ^ 64 → size set ≡ ones set
unfolding size members
all_members set b = sym (set_ones (has set) 64) ∙ ap ones (has_all set 64 ∙ mod-eq_of_lt b)

no_member : (set : ℕ) → set ≡ 0 → (chosen set ≡ 255) × (size set ≡ 0)
unfolding chosen size members those below has
no_member set e = rw e (refl, refl)

pub chosen_by_bits : ChosenByBits
chosen_by_bits set b = record {
  member = some_member set b;
  lowest = λ k e. (chosen_member set k b e).1;
  by_zeros = first_member set b;
  counted = all_members set b;
  empty = no_member set;
}

pub sets_fit : SetsFit
unfolding next_hops
sets_fit t o i d = lt_of_lt_of_le (set_below (leads t i d) t.routers) (pow_mono o.few_routers)

-- the test that makes the set
leads_next : (t : Table) (d i k : ℕ) → (leads t i d k ≡ true) ↔ Next (weight t) (λ z. cost t z d) i k
unfolding leads
leads_next t d i k = (
  λ e. let b = both (ltb 0 (weight t i k)) (eqb (weight t i k + cost t k d) (cost t i d)) e in
      record { link = ltb-true 0 (weight t i k) b.0; sums = eqb-true (weight t i k + cost t k d) (cost t i d) b.1 },
  λ s. rw (lt-ltb 0 (weight t i k) s.link, eq-eqb (weight t i k + cost t k d) (cost t i d) s.sums),
)

-- a router is a member exactly if it is a next hop
pub has_next : (t : Table) → Obeys t → (i d k : ℕ) → (has (next_hops t i d) k ≡ true) ↔ Next (weight t) (λ z. cost t z d) i k
unfolding next_hops
has_next t o i d k = (
  λ e. (leads_next t d i k).0 (sym (set_has (leads t i d) t.routers k (inside e)) ∙ e),
  λ s. set_has (leads t i d) t.routers k ((net t o).inside i k s.link).1 ∙ (leads_next t d i k).1 s,
)
  where
    inside : has (set_of (leads t i d) t.routers) k ≡ true → k < t.routers
    inside e = go (dec_lt k t.routers)
      where
        go : Dec (k < t.routers) → k < t.routers
        go (yes l) = l
        go (no l) =
            absurd (false≢true (sym (has_below (set_of (leads t i d) t.routers) t.routers k (set_below (leads t i d) t.routers) (omega arith)) ∙ e))

pub sets_have_neighbours : SetsHaveNeighbours
sets_have_neighbours t o i d k = (
  λ e. let s = (has_next t o i d k).0 e in (s.link, s.sums),
  λ (l, s). (has_next t o i d k).1 (record { link = l; sums = s }),
)

-- where no router is a next hop the set is empty
nobody : (t : Table) (i d : ℕ) → ((k : ℕ) → ¬ Next (weight t) (λ z. cost t z d) i k) → next_hops t i d ≡ 0
unfolding next_hops
nobody t i d h = set_none (leads t i d) (λ k. go k (leads t i d k) refl) t.routers
  where
    go : (k : ℕ) (b : Bool) → leads t i d k ≡ b → b ≡ false
    go k true e = absurd (h k ((leads_next t d i k).0 e))
    go k false e = refl

pub empty_sets : EmptySets
empty_sets t o i d = (λ e. some e (ℕ_discrete i d) (dec_lt (cost t i d) no_cost), none)
  where
    𝓒 : Costs (weight t) d (λ z. cost t z d)
    𝓒 = cost_laws t o d

    some : next_hops t i d ≡ 0 → Dec (i ≡ d) → Dec (cost t i d < no_cost) → (i ≡ d) ⊎ (cost t i d ≡ no_cost)
    some e (yes q) f = inl q
    some e (no q) (no f) = inr (omega (arith, 𝓒.top i))
    some e (no q) (yes f) =
        let (k, s) = 𝓒.tight i q f in
        absurd (false≢true (sym (has_below 0 0 k (omega arith) (omega arith)) ∙ (ap (λ x. has x k) (sym e) ∙ (has_next t o i d k).1 s)))

    none : (i ≡ d) ⊎ (cost t i d ≡ no_cost) → next_hops t i d ≡ 0
    none (inl q) = nobody t i d (λ k s. omega (arith, 𝓒.home, ap (λ z. cost t z d) q))
    none (inr q) = nobody t i d (λ k s. omega (arith, next_finite (net t o) 𝓒 i k s))
