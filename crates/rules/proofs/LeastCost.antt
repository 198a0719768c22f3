-- The executable cost is the least of all routes; it obeys the laws of a cost; and the certificate by which any algorithm is proved.
-- Assumes nothing.
use mathlib.Core.Path.{◌≡◌, refl, sym, ◌∙◌, ap}
use mathlib.Core.Logic.{◌≢◌}
use mathlib.Core.Bool.{Bool, true, false}
use Prim.Native.Nat.{ℕ, zero, suc, ◌+◌, ◌≤◌, ◌<◌, min}
use native.Mathlib.Nat.{zero-add, add-zero, add_assoc, add_comm, le_antisymm, min-eq_left, min-eq_right, le_of_lt, lt_of_not-le}
use native.Mathlib.Decide.{ℕ_discrete, dec_le, dec_lt}
use native.Mathlib.Omega.{arith}
use lib.Dec.{eqb}
use borrow.Author.Tests.{eqb-true, eqb-false, eq-eqb, ne_eqb}
use Rattle.rules.specs.Words.{pick}
use Rattle.rules.specs.Layout.{Table, Obeys}
use Rattle.rules.specs.Links.{weight}
use Rattle.rules.specs.Routes.{Route, arrived, via}
use Rattle.rules.specs.Costs.{LeastCost, least, none, no_cost, direct, best, cost}
use Rattle.rules.specs.Demand2.{CostsAreLeast, OneLeastCost, RealCostsAreSmall, CostsHoldBothWays, Certified, CertifiedIsCost}
use Rattle.rules.proofs.CostLaws.{Net, BothWays, Costs, Next, at_most, near}
use Rattle.rules.proofs.Weights.{net, both_ways}

-- ---- routes

module _ {w : ℕ → ℕ → ℕ} where
  -- one link
  over_link : {i k : ℕ} → 0 < w i k → Route w k i (w i k)
  over_link {i} {k} l =
      let r : Route w k i (w i k + 0) = via l arrived in
      rw add-zero at r

  -- a route, and a second from where it ends
  join : {k d i c e : ℕ} → Route w k i c → Route w d k e → Route w d i (c + e)
  join arrived r = rw zero-add r
  join (via l q) r = rw add_assoc (via l (join q r))

  -- a route the other way
  back : BothWays w → {d i c : ℕ} → Route w d i c → Route w i d c
  back h arrived = arrived
  back h (via {i} {k} {c} l r) =
      let s : Route w i k (w i k) = rw (h k i) at (over_link {i = k} {k = i} (omega (arith, h i k))) in
      rw (add_comm (w i k) c) (join (back h r) s)

  -- No route is cheaper than a function that is 0 at d and obeys the law of each link towards what it puts below B, or else costs B at least.
  no_cheaper : {d B : ℕ} {f : ℕ → ℕ} → f d ≡ 0 → ((i k : ℕ) → 0 < w i k → f k < B → f i ≤ w i k + f k) → {i c : ℕ} → Route w d i c → min (f i) B ≤ c
  no_cheaper home relaxed arrived = omega (arith, home)
  no_cheaper {d} {B} {f} home relaxed (via {i} {k} l r) = go (dec_lt (f k) B) (no_cheaper home relaxed r)
    where
      go : {c : ℕ} → Dec (f k < B) → min (f k) B ≤ c → min (f i) B ≤ w i k + c
      go (yes h) ih = omega (arith, relaxed i k l h)
      go (no h) ih = omega arith

-- the sentence allows one number only
pub one_least_cost : OneLeastCost
one_least_cost w i d c e (least r p f) (least s q g) = le_antisymm (p e s) (q c r)
one_least_cost w i d c e (least r p f) (none q) = absurd (q c r)
one_least_cost w i d c e (none p) (least s q g) = absurd (p e s)
one_least_cost w i d c e (none p) (none q) = refl

-- ---- the executable cost, step by step

module _ (w : ℕ → ℕ → ℕ) where
  direct_self : (i : ℕ) → direct w i i ≡ 0
  unfolding direct
  direct_self i = rw (eq-eqb i i refl)

  direct_top : (i d : ℕ) → w i d ≤ no_cost → direct w i d ≤ no_cost
  unfolding direct
  direct_top i d h = go (eqb i d) (eqb (w i d) 0)
    where
      go : (s t : Bool) → pick s 0 (pick t no_cost (w i d)) ≤ no_cost
      go true t = omega arith
      go false true = omega arith
      go false false = omega arith

  direct_link : (i d : ℕ) → 0 < w i d → direct w i d ≤ w i d
  unfolding direct
  direct_link i d l = go (eqb i d)
    where
      go : (t : Bool) → pick t 0 (pick (eqb (w i d) 0) no_cost (w i d)) ≤ w i d
      go true = omega arith
      go false = rw (ne_eqb (w i d) 0 (omega arith)) (omega arith)

  direct_route : (i d : ℕ) → direct w i d < no_cost → Route w d i (direct w i d)
  unfolding direct
  direct_route i d h = go (eqb i d) refl (eqb (w i d) 0) refl h
    where
      go : (s : Bool) → eqb i d ≡ s → (t : Bool) → eqb (w i d) 0 ≡ t → pick s 0 (pick t no_cost (w i d)) < no_cost
          → Route w d i (pick s 0 (pick t no_cost (w i d)))
      go true p t q h = rw (eqb-true i d p) arrived
      go false p true q h = absurd (omega arith)
      go false p false q h = over_link (omega (arith, eqb-false (w i d) 0 q))

  best_self : (m i : ℕ) → best w m i i ≡ 0
  unfolding best
  best_self zero i = direct_self i
  best_self (suc m) i = omega (arith, best_self m i)

  best_falls : (m i d : ℕ) → best w m i d ≤ direct w i d
  unfolding best
  best_falls zero i d = omega arith
  best_falls (suc m) i d = omega (arith, best_falls m i d)

  best_route : (m i d : ℕ) → best w m i d < no_cost → Route w d i (best w m i d)
  unfolding best
  best_route zero i d h = direct_route i d h
  best_route (suc m) i d h = go (dec_le (best w m i d) (best w m i m + best w m m d)) (best_route m)
    where
      go : Dec (best w m i d ≤ best w m i m + best w m m d) → ((i d : ℕ) → best w m i d < no_cost → Route w d i (best w m i d))
          → Route w d i (min (best w m i d) (best w m i m + best w m m d))
      go (yes l) ih = rw (min-eq_left l) (ih i d (omega arith))
      go (no l) ih = rw (min-eq_right (le_of_lt (lt_of_not-le l))) (join (ih i m (omega arith)) (ih m d (omega arith)))

  -- the route over a router below m is no cheaper
  best_over : (m i z d : ℕ) → z < m → best w m i d ≤ best w m i z + best w m z d
  unfolding best
  best_over zero i z d h = omega arith
  best_over (suc m) i z d h = go (ℕ_discrete z m) (best_over m)
    where
      go : Dec (z ≡ m) → ((a b e : ℕ) → b < m → best w m a e ≤ best w m a b + best w m b e)
          → min (best w m i d) (best w m i m + best w m m d)
          ≤ min (best w m i z) (best w m i m + best w m m z) + min (best w m z d) (best w m z m + best w m m d)
      go (yes e) ih = rw e (omega (arith, best_self m m))
      go (no e) ih = omega (arith, ih i z d (omega arith), ih i z m (omega arith), ih m z d (omega arith), ih m z m (omega arith), best_self m m)

-- ---- the laws

module _ {n : ℕ} {w : ℕ → ℕ → ℕ} (𝓝 : Net n w) (d : ℕ) where
  best_top : (i : ℕ) → best w n i d ≤ no_cost
  best_top i = omega (arith, best_falls w n i d, direct_top w i d (omega (arith, 𝓝.small i d)))

  best_relax : (i k : ℕ) → 0 < w i k → best w n i d ≤ w i k + best w n k d
  best_relax i k l = omega (arith, best_over w n i k d (𝓝.inside i k l).1, best_falls w n i k, direct_link w i k l)

  -- no route is cheaper
  best_least : {i e : ℕ} → Route w d i e → best w n i d ≤ e
  best_least {i} {e} r =
      let h : min (best w n i d) (suc no_cost) ≤ e = no_cheaper (best_self w n d) (λ i k l b. best_relax i k l) r in
      omega (arith, best_top i)

  -- the first link of a best route leads to a next hop
  first_link : (i c : ℕ) → i ≢ d → Route w d i c → c ≡ best w n i d → (k : ℕ) × Next w (λ i. best w n i d) i k
  first_link i c a arrived e = absurd (a refl)
  first_link i c a (via {k = k} l r) e = (k, record { link = l; sums = omega (arith, best_least r, best_relax i k l) })

  pub best_costs : Costs w d (λ i. best w n i d)
  best_costs = record {
    top = best_top;
    home = best_self w n d;
    relax = best_relax;
    tight = λ i a f. first_link i (best w n i d) a (best_route w n i d f) refl;
  }

  -- where there is a route the cost is real
  reached : {i e : ℕ} → Route w d i e → best w n i d < no_cost
  reached arrived = omega (arith, best_self w n d)
  reached (via {i} {k} l r) = near 𝓝 best_costs i k l (reached r)

  best_is_least : (i : ℕ) → LeastCost w i d (best w n i d)
  best_is_least i = go (dec_lt (best w n i d) no_cost)
    where
      go : Dec (best w n i d < no_cost) → LeastCost w i d (best w n i d)
      go (yes f) = least (best_route w n i d f) (λ e r. best_least r) f
      go (no f) =
          let e : best w n i d ≡ no_cost = omega (arith, best_top i) in
          rw e (none (λ c r. f (reached r)))

-- ---- the certificate, and costs the other way, over any weights

-- a function with a certificate up to B is the cost wherever it is at most B
pub certified_is_best : {n : ℕ} {w : ℕ → ℕ → ℕ} → Net n w → (d B : ℕ) (f : ℕ → ℕ) → Certified w d B f → (i : ℕ) → f i ≤ B → f i ≡ best w n i d
certified_is_best {n} {w} 𝓝 d B f h i b = go (best_is_least 𝓝 d i)
  where
    -- no route is cheaper than f, and f is the cost of a route or 4294967295
    go : {c : ℕ} → LeastCost w i d c → f i ≡ c
    go (least {c} r p g) = real (dec_lt (f i) no_cost)
      where
        real : Dec (f i < no_cost) → f i ≡ c
        real (yes q) = omega (arith, no_cheaper {B = B} h.home h.relaxed r, p (f i) (h.routed i q))
        real (no q) = omega (arith, no_cheaper {B = B} h.home h.relaxed r)
    go (none p) = unreal (dec_lt (f i) no_cost)
      where
        unreal : Dec (f i < no_cost) → f i ≡ no_cost
        unreal (yes q) = absurd (p (f i) (h.routed i q))
        unreal (no q) = omega (arith, h.top i)

-- over weights turned round, the cost from i to d is the cost from d to i
pub best_turned : (w : ℕ → ℕ → ℕ) (n i d : ℕ) → best (λ a b. w b a) n i d ≡ best w n d i
unfolding best direct
best_turned w zero i d = ap (λ t. pick t 0 (pick (eqb (w d i) 0) no_cost (w d i))) (go (ℕ_discrete i d))
  where
    go : Dec (i ≡ d) → eqb i d ≡ eqb d i
    go (yes e) = eq-eqb i d e ∙ sym (eq-eqb d i (sym e))
    go (no a) = ne_eqb i d a ∙ sym (ne_eqb d i (λ e. a (sym e)))
best_turned w (suc m) i d =
    rw (best_turned w m i d, best_turned w m i m, best_turned w m m d, add_comm (best w m m i) (best w m d m))

-- routers that no link reaches change no cost
pub best_routers : {m n : ℕ} {w : ℕ → ℕ → ℕ} → Net m w → Net n w → (i d : ℕ) → best w m i d ≡ best w n i d
best_routers {m} {n} {w} 𝓜 𝓝 i d = one_least_cost w i d (best w m i d) (best w n i d) (best_is_least 𝓜 d i) (best_is_least 𝓝 d i)

-- a number that is no router's has a route to itself only
pub out_of_reach : {n : ℕ} {w : ℕ → ℕ → ℕ} → Net n w → (i d : ℕ) → n ≤ i → i ≢ d → best w n i d ≡ no_cost
out_of_reach {n} {w} 𝓝 i d h a = go (dec_lt (best w n i d) no_cost)
  where
    go : Dec (best w n i d < no_cost) → best w n i d ≡ no_cost
    go (yes f) =
        let (k, s) = (best_costs 𝓝 d).tight i a f in
        absurd (omega (arith, (𝓝.inside i k s.link).0))
    go (no f) = omega (arith, best_top 𝓝 d i)

-- ---- the theorems

-- the cost of a table obeys the laws
pub cost_laws : (t : Table) → Obeys t → (d : ℕ) → Costs (weight t) d (λ i. cost t i d)
unfolding cost
cost_laws t o d = best_costs (net t o) d

pub costs_are_least : CostsAreLeast
unfolding cost
costs_are_least t o i d = best_is_least (net t o) d i

pub real_costs_are_small : RealCostsAreSmall
real_costs_are_small t o i d = at_most (net t o) (cost_laws t o d) i

pub costs_hold_both_ways : CostsHoldBothWays
costs_hold_both_ways t o i d =
    one_least_cost (weight t) i d (cost t i d) (cost t d i) (costs_are_least t o i d) (turned (costs_are_least t o d i))
  where
    turned : {c : ℕ} → LeastCost (weight t) d i c → LeastCost (weight t) i d c
    turned (least r p f) = least (back (both_ways t) r) (λ e s. p e (back (both_ways t) s)) f
    turned (none p) = none (λ e s. p e (back (both_ways t) s))

pub certified_is_cost : CertifiedIsCost
unfolding cost
certified_is_cost t o d B f h i b = certified_is_best (net t o) d B f h i b
