-- What is found over a table's weights, and over the web of an accepted table: its own costs and next-hop sets.
-- Assumes nothing.
use mathlib.Core.Path.{◌≡◌, sym, ◌∙◌, ap}
use mathlib.Core.Bool.{false, ◌&&◌}
use mathlib.Core.List.{List, map}
use Prim.Native.Nat.{ℕ, ◌+◌, ◌≤◌, ◌<◌}
use native.Mathlib.Decide.{dec_lt}
use native.Mathlib.Omega.{arith}
use lib.Dec.{eqb, ltb}
use borrow.Author.Tests.{le-ltb}
use Rattle.rules.specs.Words.{below}
use Rattle.rules.specs.Layout.{Table, Obeys}
use Rattle.rules.specs.Links.{weight}
use Rattle.rules.specs.Costs.{best, cost, no_cost}
use Rattle.rules.specs.NextHops.{set_of, leads, next_hops}
use Rattle.rules.proofs.Basics.{value_at, value_behind}
use Rattle.rules.proofs.Weights.{net, wide}
use Rattle.rules.proofs.LeastCost.{best_routers, costs_hold_both_ways, out_of_reach}
use Rattle.rules.specs.Table.{says}
use Rattle.rules.specs.Demand1.{IsAccepted}
use Rattle.rules.proofs.Acceptance.{obeys}
use Rattle.tables.specs.Readings.{outline_of}
use Rattle.tables.specs.declared.Outline.{Outline}
use Rattle.sets.proofs.Walk.{passed_over}
use Rattle.webs.specs.Webs.{web_weight, web_at}
use Rattle.webs.specs.declared.Web.{Web}
use Rattle.webs.proofs.Accepted.{accepted_web}
use Rattle.search.specs.declared.Found.{Found}
use Rattle.search.specs.Search.{costs_from, hops_over, sets_from, cost_at, found_from}

module _ (t : Table) (o : Obeys t) where
  cost_over : (i d : ℕ) → best (weight t) 64 i d ≡ cost t i d
  unfolding cost
  cost_over i d = best_routers (wide t o) (net t o) i d

  -- no number from 64 on has a route to one below
  beyond : (k d : ℕ) → d < 64 → 64 ≤ k → cost t k d ≡ no_cost
  beyond k d b h = sym (cost_over k d) ∙ out_of_reach (wide t o) k d h (omega arith)

  module _ (w : ℕ → ℕ → ℕ) (q : w ≡ weight t) where
    -- the costs from a destination are the costs to it
    costs_of_table : (d : ℕ) → costs_from w d ≡ map (λ i. cost t i d) (below 64)
    unfolding costs_from
    costs_of_table d =
        ap (λ (v : ℕ → ℕ → ℕ). map (best v 64 d) (below 64)) q
        ∙ ap (λ (f : ℕ → ℕ). map f (below 64)) (λ j i. (cost_over d i ∙ costs_hold_both_ways t o d i) j)

    -- the next-hop set of a router, by the costs to a destination
    hops_of_table : (c : ℕ → ℕ) (i d : ℕ) → ((k : ℕ) → c k ≡ cost t k d) → hops_over w c i ≡ next_hops t i d
    unfolding hops_over next_hops leads
    hops_of_table c i d e =
        ap (λ (v : ℕ → ℕ → ℕ). set_of (λ k. ltb 0 (v i k) && eqb (v i k + c k) (c i)) 64) q
        ∙ ap (λ (f : ℕ → ℕ). set_of (λ k. ltb 0 (weight t i k) && eqb (weight t i k + f k) (f i)) 64) (λ j k. e k j)
        ∙ passed_over (leads t i d) t.routers 64 o.few_routers (λ k h l. far k h)
      where
        far : (k : ℕ) → t.routers ≤ k → leads t i d k ≡ false
        far k h = ap (λ s. s && eqb (weight t i k + cost t k d) (cost t i d)) (le-ltb 0 (weight t i k) (none (dec_lt 0 (weight t i k))))
          where
            none : Dec (0 < weight t i k) → weight t i k ≤ 0
            none (yes l) = absurd (omega (arith, (net t o).inside i k l))
            none (no l) = omega arith

    -- the same where the costs stand in an array
    hops_by_costs : (costs : List ℕ) (d : ℕ) → d < 64 → costs ≡ costs_from w d → (i : ℕ) → hops_over w (cost_at costs) i ≡ next_hops t i d
    hops_by_costs costs d b e i = hops_of_table (cost_at costs) i d (λ k. ap (λ l. cost_at l k) (e ∙ costs_of_table d) ∙ go k (dec_lt k 64))
      where
        go : (k : ℕ) → Dec (k < 64) → cost_at (map (λ i. cost t i d) (below 64)) k ≡ cost t k d
        go k (yes h) = value_at (λ i. cost t i d) 64 k no_cost h
        go k (no h) =
            value_behind (λ i. cost t i d) 64 k no_cost (omega arith)
            ∙ sym (beyond k d b (omega arith))

    -- the next-hop sets of a router for every destination
    sets_of_table : (i : ℕ) → sets_from w i ≡ map (next_hops t i) (below 64)
    unfolding sets_from
    sets_of_table i =
        ap (λ (f : ℕ → ℕ). map f (below 64)) (λ j d. hops_of_table (λ k. best w 64 k d) i d (λ k. ap (λ (v : ℕ → ℕ → ℕ). best v 64 k d) q ∙ cost_over k d) j)

-- over the web of an accepted table
module _ (table : List ℕ) (a : IsAccepted table) (t : Outline) (q : t ≡ outline_of table) (web : Web) (e : web ≡ web_at table t) where
  o : Obeys (says table)
  o = obeys table a

  w : web_weight web ≡ weight (says table)
  w = accepted_web table a t q web e

  pub found_costs : (d : ℕ) → costs_from (web_weight web) d ≡ map (λ i. cost (says table) i d) (below 64)
  found_costs = costs_of_table (says table) o (web_weight web) w

  pub found_hops : (costs : List ℕ) (d : ℕ) → d < 64 → costs ≡ costs_from (web_weight web) d → (i : ℕ)
      → hops_over (web_weight web) (cost_at costs) i ≡ next_hops (says table) i d
  found_hops = hops_by_costs (says table) o (web_weight web) w

  -- of what is found from router i the sets are its own for every destination
  pub found_sets : (i : ℕ) (found : Found) → found ≡ found_from (web_weight web) i → found.sets ≡ map (next_hops (says table) i) (below 64)
  unfolding found_from
  found_sets i found f = ap (λ (r : Found). r.sets) f ∙ sets_of_table (says table) o (web_weight web) w i
