-- One hop, and a trail of hops, over two views that differ in one link at most. The sum of a router's costs in the two views never rises along
-- the trail. Where it stays, the router before is a next hop in the other view, so the next router, which does not discard, uses the same view,
-- and there the cost falls. So no router is met twice.
-- Assumes nothing.
use mathlib.Core.Path.{◌≡◌, sym, ◌∙◌, ap, ap₂}
use mathlib.Core.Logic.{◌≢◌, inl, inr}
use mathlib.Core.List.{List, [], ◌∷◌}
use Prim.Native.Nat.{ℕ, suc, ◌+◌, ◌≤◌, ◌<◌}
use native.Mathlib.Decide.{ℕ_discrete, dec_lt}
use native.Mathlib.Omega.{arith}
use lib.ListN.{length}
use Rattle.rules.specs.Words.{All, Distinct}
use Rattle.rules.specs.Costs.{no_cost}
use Rattle.rules.specs.Paths.{View, old_view, new_view}
use Rattle.rules.specs.Demand1.{SameEnds, OneChange}
use Rattle.rules.proofs.Basics.{All-map, pigeonhole}
use Rattle.rules.proofs.CostLaws.{Net, BothWays, Next, Costs, lower}

-- ---- one hop from i to k in the view (w, c), with (w', c') the other view

module _ {w w' : ℕ → ℕ → ℕ} {d : ℕ} {c c' : ℕ → ℕ} (both : BothWays w) (both' : BothWays w')
    (𝓒 : Costs w d c) (𝓒' : Costs w' d c') (once : OneChange w w') {i k : ℕ} (s : Next w c i k) where
  -- the link is dearer in the other view, or absent: what is nearer than i keeps its cost there, and no cost there is lower
  dearer : w i k ≢ w' i k → (0 < w' i k → w i k < w' i k) → c k + c' k < c i + c' i
  dearer a h = omega (arith, s, lower 𝓒 𝓒' (c i) away k (omega (arith, s)), lower 𝓒' 𝓒 (suc no_cost) heavy i (omega (arith, 𝓒'.top i)))
    where
      away : (p q : ℕ) → c p < c i → Next w c p q → (0 < w' p q) × (w' p q ≤ w p q)
      away p q l t = go (ℕ_discrete (w p q) (w' p q))
        where
          elsewhere : SameEnds p q i k → ⊥
          elsewhere (inl (e, f)) = omega (arith, ap c e)
          elsewhere (inr (e, f)) = omega (arith, t, ap c f)

          go : Dec (w p q ≡ w' p q) → (0 < w' p q) × (w' p q ≤ w p q)
          go (yes e) = omega (arith, t)
          go (no e) = absurd (elsewhere (once i k p q a e))

      heavy : (p q : ℕ) → c' p < suc no_cost → Next w' c' p q → (0 < w p q) × (w p q ≤ w' p q)
      heavy p q l t = go (ℕ_discrete (w p q) (w' p q))
        where
          there : w p q ≡ w i k → w' p q ≡ w' i k → (0 < w p q) × (w p q ≤ w' p q)
          there e f = omega (arith, s, t, h (omega (arith, t)))

          on_it : SameEnds p q i k → (0 < w p q) × (w p q ≤ w' p q)
          on_it (inl (e, f)) = there (ap₂ w e f) (ap₂ w' e f)
          on_it (inr (e, f)) = there (ap₂ w e f ∙ both k i) (ap₂ w' e f ∙ both' k i)

          go : Dec (w p q ≡ w' p q) → (0 < w p q) × (w p q ≤ w' p q)
          go (yes e) = omega (arith, t)
          go (no e) = on_it (once i k p q a e)

  -- the sum of the two costs does not rise, and where it stays, i is a next hop of k in the other view
  pub hop : (c k + c' k ≤ c i + c' i) × (c k + c' k ≡ c i + c' i → Next w' c' k i)
  hop = go (ℕ_discrete (w i k) (w' i k)) (dec_lt (w' i k) (w i k)) (dec_lt 0 (w' i k))
    where
      back : w' k i ≡ w' i k
      back = both' k i

      strict : c k + c' k < c i + c' i → (c k + c' k ≤ c i + c' i) × (c k + c' k ≡ c i + c' i → Next w' c' k i)
      strict l = (omega arith, λ e. absurd (omega arith))

      go : Dec (w i k ≡ w' i k) → Dec (w' i k < w i k) → Dec (0 < w' i k) → (c k + c' k ≤ c i + c' i) × (c k + c' k ≡ c i + c' i → Next w' c' k i)
      go (yes e) g z =
          let l : 0 < w' k i = omega (arith, s, back) in
          let r = 𝓒'.relax k i l in
          (omega (arith, s, back), λ f. record { link = l; sums = omega (arith, s, back) })
      go (no e) (yes g) (yes z) = strict (omega (arith, s, back, 𝓒'.relax k i (omega (arith, back))))
      go (no e) (yes g) (no z) = strict (dearer e (λ h. absurd (z h)))
      go (no e) (no g) z = strict (dearer e (λ h. omega arith))

-- ---- a trail

abbrev other : View → View
other old_view = new_view
other new_view = old_view

-- router i, which uses view v and was reached from j, does not discard, and forwards to k
pub record Sends (W : View → ℕ → ℕ → ℕ) (C : View → ℕ → ℕ) (v : View) (j i k : ℕ) : Type 0 where
  pub onward : Next (W v) (C v) i k
  pub kept : ¬ Next (W v) (C v) i j

-- the routers from i on, which was reached from j
pub data Trail (W : View → ℕ → ℕ → ℕ) (C : View → ℕ → ℕ) : ℕ → ℕ → List ℕ → Type 0 where
  stays : {j i : ℕ} → Trail W C j i (i ∷ [])
  goes : {v : View} {j i k : ℕ} {ks : List ℕ} → Sends W C v j i k → Trail W C i k ks → Trail W C j i (i ∷ ks)

module _ {n : ℕ} {W : View → ℕ → ℕ → ℕ} {d : ℕ} {C : View → ℕ → ℕ} (𝓝 : (v : View) → Net n (W v)) (both : (v : View) → BothWays (W v))
    (𝓒 : (v : View) → Costs (W v) d (C v)) (once : OneChange (W old_view) (W new_view)) where
  abbrev Φ : ℕ → ℕ
  Φ z = C old_view z + C new_view z

  -- z comes after i, which used view v
  abbrev After : ℕ → View → ℕ → Type 0
  After i v z = (Φ z ≤ Φ i) × (Φ z ≡ Φ i → C v z < C v i)

  -- one hop, whichever view it is in
  crossed : (i : ℕ) (v : View) (k : ℕ) → Next (W v) (C v) i k → (Φ k ≤ Φ i) × (Φ k ≡ Φ i → Next (W (other v)) (C (other v)) k i)
  crossed i old_view k s = hop (both old_view) (both new_view) (𝓒 old_view) (𝓒 new_view) once s
  crossed i new_view k s =
      let turned : OneChange (W new_view) (W old_view) = λ i k a b p q. once i k a b (λ e. p (sym e)) (λ e. q (sym e)) in
      let h = hop (both new_view) (both old_view) (𝓒 new_view) (𝓒 old_view) turned s in
      (omega arith, λ e. h.1 (omega arith))

  first : (i : ℕ) (v : View) (k : ℕ) → Next (W v) (C v) i k → After i v k
  first i v k s = ((crossed i v k s).0, λ e. omega arith)

  -- what comes after k, which did not discard, comes after i too
  later : (i : ℕ) (v : View) (k : ℕ) (u : View) → Next (W v) (C v) i k → ¬ Next (W u) (C u) k i → (z : ℕ) → After k u z → After i v z
  later i v k u s keep z r =
      let h = crossed i v k s in
      (omega arith, λ e. go v u keep s (h.1 (omega arith)) (r.1 (omega arith)))
    where
      go : (v u : View) → ¬ Next (W u) (C u) k i → Next (W v) (C v) i k → Next (W (other v)) (C (other v)) k i → C u z < C u k → C v z < C v i
      go old_view old_view keep s m l = omega arith
      go new_view new_view keep s m l = omega arith
      go old_view new_view keep s m l = absurd (keep m)
      go new_view old_view keep s m l = absurd (keep m)

  all_after : {v : View} {j i k : ℕ} {ks : List ℕ} → Sends W C v j i k → Trail W C i k ks → All (After i v) ks
  all_after {v} {j} {i} {k} s stays = (first i v k s.onward, tt)
  all_after {v} {j} {i} {k} s (goes {v = u} {ks = ks} t r) =
      (first i v k s.onward, All-map (later i v k u s.onward t.kept) ks (all_after t r))

  apart : (i : ℕ) (v : View) (z : ℕ) → After i v z → z ≢ i
  apart i v z a e = omega (arith, a.1 (ap Φ e), ap (C v) e)

  -- NO ROUTER TWICE
  pub no_router_twice : {j i : ℕ} {is : List ℕ} → Trail W C j i is → Distinct is
  no_router_twice stays = (tt, tt)
  no_router_twice (goes {v} {j} {i} {k} {ks} s r) = (All-map (apart i v) ks (all_after s r), no_router_twice r)

  pub trail_inside : {j i : ℕ} {is : List ℕ} → Trail W C j i is → i < n → All (λ z. z < n) is
  trail_inside stays b = (b, tt)
  trail_inside (goes {v} {j} {i} {k} s r) b = (b, trail_inside r ((𝓝 v).inside i k s.onward.link).1)

  -- so a trail is no longer than there are routers
  pub trail_short : {j i : ℕ} {is : List ℕ} → Trail W C j i is → i < n → length is ≤ n
  trail_short {is = is} r b = pigeonhole n is (no_router_twice r) (trail_inside r b)
