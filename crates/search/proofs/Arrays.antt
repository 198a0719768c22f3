-- The arrays of a search: 64 costs and 64 sets, as the code reads and writes them, and as they are at first.
-- Assumes nothing.
use mathlib.Core.Path.{◌≡◌, refl, ◌∙◌, ap}
use mathlib.Core.Bool.{false}
use mathlib.Core.List.{List}
use Prim.Native.Nat.{ℕ, ◌≤◌, ◌<◌}
use native.Mathlib.Decide.{ℕ_discrete, dec_lt}
use native.Mathlib.Omega.{arith}
use lib.ListN.{length, get_or, set, replicate, length-set, length-replicate, get_or-replicate, get_or-eq_default}
use lib.Seq.{get_or-set_same, get_or-set_other}
use Rattle.rules.specs.Costs.{no_cost}
use Rattle.rules.specs.NextHops.{has}
use Rattle.rules.proofs.Basics.{any_default, same_everywhere}
use Rattle.sets.proofs.ByMembers.{nobody}
use Rattle.search.specs.Search.{cost_at}
use Rattle.search.specs.Steps.{AreSets}

-- ---- costs

-- what the type of the array says: 64 costs of 32 bits
pub record AreCosts (costs : List ℕ) : Type 0 where
  pub long : length costs ≡ 64
  pub fit : (k : ℕ) → get_or costs k 0 ≤ no_cost

-- as a proof has it of an array behind a reference
pub are_costs : (costs : List ℕ) → length costs ≡ 64 → ((k : ℕ) → get_or costs k 0 < 4294967296) → AreCosts costs
are_costs costs l f = record { long = l; fit = λ k. omega (arith, f k) }

-- the code reads costs with default 0
pub as_read : (costs : List ℕ) → AreCosts costs → (k : ℕ) → k < 64 → get_or costs k 0 ≡ cost_at costs k
as_read costs a k h = any_default costs k 0 no_cost (omega (arith, a.long))

pub cost_top : (costs : List ℕ) → AreCosts costs → (k : ℕ) → cost_at costs k ≤ no_cost
cost_top costs a k = go (dec_lt k 64)
  where
    go : Dec (k < 64) → cost_at costs k ≤ no_cost
    go (yes h) = omega (arith, as_read costs a k h, a.fit k)
    go (no h) = omega (arith, get_or-eq_default costs no_cost {n = k} (omega (arith, a.long)))

module _ (costs : List ℕ) (a : AreCosts costs) (k v : ℕ) (h : k < 64) where
  pub cost_written : cost_at (set costs k v) k ≡ v
  cost_written = get_or-set_same costs k v no_cost (omega (arith, a.long))

  pub written_costs : v ≤ no_cost → AreCosts (set costs k v)
  written_costs l = record { long = length-set costs k v ∙ a.long; fit = λ j. fit j (ℕ_discrete j k) }
    where
      fit : (j : ℕ) → Dec (j ≡ k) → get_or (set costs k v) j 0 ≤ no_cost
      fit j (yes e) = omega (arith, ap (λ n. get_or (set costs k v) n 0) e, get_or-set_same costs k v 0 (omega (arith, a.long)))
      fit j (no e) = omega (arith, get_or-set_other costs k j v 0 e, a.fit j)

-- no cost to any router
pub no_costs_are : AreCosts (replicate 64 no_cost)
no_costs_are = record { long = length-replicate 64 no_cost; fit = λ k. go k (dec_lt k 64) }
  where
    go : (k : ℕ) → Dec (k < 64) → get_or (replicate 64 no_cost) k 0 ≤ no_cost
    go k (yes h) = omega (arith, get_or-replicate 64 k no_cost 0 h)
    go k (no h) = omega (arith, get_or-eq_default (replicate 64 no_cost) 0 {n = k} (omega (arith, length-replicate 64 no_cost)))

pub no_cost_at : (k : ℕ) → cost_at (replicate 64 no_cost) k ≡ no_cost
no_cost_at k = same_everywhere no_cost 64 k

-- ---- empty sets

module _ (sets : List ℕ) (e : sets ≡ replicate 64 0) where
  pub empty_are : AreSets sets
  empty_are = rw e (record { long = refl; fit = λ k. omega (arith, same_everywhere {A = ℕ} 0 64 k) })

  pub none_inside : (k j : ℕ) → has (get_or sets k 0) j ≡ false
  none_inside k j = ap (λ l. has (get_or l k 0) j) e ∙ ap (λ n. has n j) (same_everywhere 0 64 k) ∙ nobody j
