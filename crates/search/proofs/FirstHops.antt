-- First hops: router j is a first hop from s to d exactly if a cheapest route to d has a last link, from some p, and j is d itself where p is s, else
-- a first hop to p. The weights need not be the same both ways.
-- Assumes nothing.
use mathlib.Core.Path.{◌≡◌, refl, sym, ap}
use mathlib.Core.Logic.{◌≢◌, ◌⊎◌, inl, inr}
use Prim.Native.Nat.{ℕ, ◌+◌, ◌≤◌, ◌<◌}
use native.Mathlib.Decide.{ℕ_discrete}
use native.Mathlib.Omega.{arith}
use Rattle.rules.specs.Costs.{no_cost, best}
use Rattle.rules.proofs.CostLaws.{Net, Next, next_finite}
use Rattle.rules.proofs.LeastCost.{best_costs, best_turned}

-- router j is a first hop from s to d
abbrev pub FirstHop : (ℕ → ℕ → ℕ) → ℕ → ℕ → ℕ → Type 0
FirstHop w s d j = Next w (λ k. best w 64 k d) s j

-- j is d itself where p is s, else P is so
abbrev pub First : ℕ → ℕ → ℕ → ℕ → Type 0 → Type 0
First s p d j P = ((p ≡ s) × (j ≡ d)) ⊎ ((p ≢ s) × P)

pub first_so : {s p d j : ℕ} {P Q : Type 0} → (P → Q) → First s p d j P → First s p d j Q
first_so f (inl e) = inl e
first_so f (inr (a, h)) = inr (a, f h)

-- the last link of a cheapest route from s to d starts at p, and j is its first hop
pub record LastLink (w : ℕ → ℕ → ℕ) (s p d j : ℕ) : Type 0 where
  pub link : 0 < w p d
  pub sums : best w 64 s p + w p d ≡ best w 64 s d
  pub first : First s p d j (FirstHop w s p j)

module _ {w : ℕ → ℕ → ℕ} (𝓝 : Net 64 w) where
  pub turned_net : Net 64 (λ a b. w b a)
  turned_net = record { few = 𝓝.few; inside = λ i k l. ((𝓝.inside k i l).1, (𝓝.inside k i l).0); small = λ i k. 𝓝.small k i }

  -- ---- the laws of a cost from its last link

  relax_last : (i p d : ℕ) → 0 < w p d → best w 64 i d ≤ best w 64 i p + w p d
  relax_last i p d l = omega (arith, (best_costs turned_net i).relax d p l, best_turned w 64 d i, best_turned w 64 p i)

  tight_last : (i d : ℕ) → d ≢ i → best w 64 i d < no_cost → (p : ℕ) × (0 < w p d) × (best w 64 i p + w p d ≡ best w 64 i d)
  tight_last i d a f =
      let (p, s) = (best_costs turned_net i).tight d a (omega (arith, best_turned w 64 d i)) in
      (p, s.link, omega (arith, s.sums, best_turned w 64 d i, best_turned w 64 p i))

  -- ---- first hops by the last link

  module _ (s d j : ℕ) where
    pub last_first : (p : ℕ) → LastLink w s p d j → FirstHop w s d j
    last_first p v = go v.first
      where
        go : First s p d j (FirstHop w s p j) → FirstHop w s d j
        go (inl (e, f)) = record {
          link = rw (f, ← e) v.link;
          sums = rw f (omega (arith, v.sums, (best_costs 𝓝 d).home, (best_costs 𝓝 s).home, ap (λ z. w z d) e, ap (λ z. best w 64 s z) e));
        }
        go (inr (a, h)) = record {
          link = h.link;
          sums = omega (arith, h.sums, v.sums, relax_last j p d v.link, (best_costs 𝓝 d).relax s j h.link);
        }

    pub first_last : FirstHop w s d j → (p : ℕ) × LastLink w s p d j
    first_last h = go (ℕ_discrete j d)
      where
        finite : best w 64 s d < no_cost
        finite = next_finite 𝓝 (best_costs 𝓝 d) s j h

        go : Dec (j ≡ d) → (p : ℕ) × LastLink w s p d j
        go (yes e) = (
          s,
          record {
            link = rw e at h.link;
            sums = omega (arith, h.sums, (best_costs 𝓝 d).home, (best_costs 𝓝 s).home, ap (λ z. w s z) e, ap (λ z. best w 64 z d) e);
            first = inl (refl, e);
          },
        )
        go (no a) =
            let (p, l, q) = tight_last j d (λ e. a (sym e)) (omega (arith, h.sums, finite)) in
            let u : best w 64 s p ≤ w s j + best w 64 j p = (best_costs 𝓝 p).relax s j h.link in
            let r : best w 64 s d ≤ best w 64 s p + w p d = relax_last s p d l in
            let k : best w 64 s p ≡ w s j + best w 64 j p = omega (arith, h.sums) in (
              p,
              record {
                link = l;
                sums = omega (arith, h.sums);
                first = inr (λ e. omega (arith, h.link, (best_costs 𝓝 s).home, ap (λ z. best w 64 s z) e), record { link = h.link; sums = sym k });
              },
            )
