-- The laws that everything above the costs uses, over plain functions: weights w (0: no link) and costs c to one destination d.
-- Assumes nothing.
use mathlib.Core.Path.{◌≡◌, ap}
use mathlib.Core.Logic.{◌≢◌}
use Prim.Native.Nat.{ℕ, suc, ◌+◌, ◌*◌, ◌≤◌, ◌<◌}
use native.Mathlib.Decide.{ℕ_discrete, dec_lt}
use native.Mathlib.Omega.{arith}
use lib.Dec.{ltb}
use Rattle.rules.specs.Costs.{no_cost}
use Rattle.rules.proofs.Basics.{strong, under, count_at_most, under_grows}

-- w is the weights of a network of n routers
pub record Net (n : ℕ) (w : ℕ → ℕ → ℕ) : Type 0 where
  pub few : n ≤ 64
  pub inside : (i k : ℕ) → 0 < w i k → (i < n) × (k < n)
  pub small : (i k : ℕ) → w i k ≤ 65535

-- weights hold both ways
abbrev pub BothWays : (ℕ → ℕ → ℕ) → Type 0
BothWays w = (i k : ℕ) → w i k ≡ w k i

-- k is a next hop of i
pub record Next (w : ℕ → ℕ → ℕ) (c : ℕ → ℕ) (i k : ℕ) : Type 0 where
  pub link : 0 < w i k
  pub sums : w i k + c k ≡ c i

-- The four laws of a cost: none above 4294967295; 0 at d; no more than over any link; and a finite cost away from d has a next hop.
pub record Costs (w : ℕ → ℕ → ℕ) (d : ℕ) (c : ℕ → ℕ) : Type 0 where
  pub top : (i : ℕ) → c i ≤ no_cost
  pub home : c d ≡ 0
  pub relax : (i k : ℕ) → 0 < w i k → c i ≤ w i k + c k
  pub tight : (i : ℕ) → i ≢ d → c i < no_cost → (k : ℕ) × Next w c i k

-- Where each next hop from below B has a link over there that is no heavier, the costs below B are no higher there.
module _ {w w' : ℕ → ℕ → ℕ} {d : ℕ} {c c' : ℕ → ℕ} (𝓒 : Costs w d c) (𝓒' : Costs w' d c')
    (B : ℕ) (kept : (a b : ℕ) → c a < B → Next w c a b → (0 < w' a b) × (w' a b ≤ w a b)) where
  pub lower : (i : ℕ) → c i < B → c' i ≤ c i
  lower = strong c (λ i. c i < B → c' i ≤ c i) (λ i ih b. go i ih b (dec_lt (c i) no_cost) (ℕ_discrete i d))
    where
      go : (i : ℕ) → ((z : ℕ) → c z < c i → c z < B → c' z ≤ c z) → c i < B → Dec (c i < no_cost) → Dec (i ≡ d) → c' i ≤ c i
      go i ih b (no f) e = omega (arith, 𝓒'.top i)
      go i ih b (yes f) (yes e) = omega (arith, 𝓒'.home, ap c' e)
      go i ih b (yes f) (no e) =
          let (k, s) = 𝓒.tight i e f in
          let l = kept i k b s in
          omega (arith, 𝓒'.relax i k l.0, ih k (omega arith) (omega arith))

module _ {n : ℕ} {w : ℕ → ℕ → ℕ} {d : ℕ} {c : ℕ → ℕ} (𝓝 : Net n w) (𝓒 : Costs w d c) where
  -- each next hop has fewer routers below it
  by_rank : (i : ℕ) → c i < no_cost → c i ≤ 65535 * under c n (c i)
  by_rank = strong c (λ i. c i < no_cost → c i ≤ 65535 * under c n (c i)) (λ i ih f. go i ih f (ℕ_discrete i d))
    where
      go : (i : ℕ) → ((z : ℕ) → c z < c i → c z < no_cost → c z ≤ 65535 * under c n (c z)) → c i < no_cost → Dec (i ≡ d) → c i ≤ 65535 * under c n (c i)
      go i ih f (yes e) = omega (arith, 𝓒.home, ap c e)
      go i ih f (no e) =
          let (k, s) = 𝓒.tight i e f in
          omega (arith, ih k (omega arith) (omega arith), 𝓝.small i k, under_grows c n (c k) (c i) k (𝓝.inside i k s.link).1 (omega arith) (omega arith))

  -- a real cost is at most 63 times the largest weight
  pub at_most : (i : ℕ) → c i < no_cost → c i ≤ 63 * 65535
  at_most i f = go (ℕ_discrete i d)
    where
      go : Dec (i ≡ d) → c i ≤ 63 * 65535
      go (yes e) = omega (arith, 𝓒.home, ap c e)
      go (no e) =
          let (k, s) = 𝓒.tight i e f in
          let b = (𝓝.inside i k s.link).0 in
          omega (arith, by_rank i f, 𝓝.few, under_grows c n (c i) (suc (c i)) i b (omega arith) (omega arith), count_at_most (λ z. ltb (c z) (suc (c i))) n)

  -- a neighbour of a router with a route has one
  pub near : (i k : ℕ) → 0 < w i k → c k < no_cost → c i < no_cost
  near i k l f = omega (arith, at_most k f, 𝓝.small i k, 𝓒.relax i k l)

  -- a router with a next hop has a route
  pub next_finite : (i k : ℕ) → Next w c i k → c i < no_cost
  next_finite i k s = near i k s.link (omega (arith, s, 𝓒.top i))
