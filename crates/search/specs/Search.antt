-- Costs and next-hop sets over any weights of 64 routers.
use Rattle.std.specs.Prelude.{◌≡◌, Bool, ◌&&◌, List, map, ℕ, ◌+◌, get_or}
use Rattle.rules.specs.Words.{◌=?◌, ◌<?◌, below}
use Rattle.rules.specs.Costs.{no_cost, best}
use Rattle.rules.specs.NextHops.{set_of}
use Rattle.webs.specs.Webs.{web_weight}
use Rattle.webs.specs.declared.Web.{Web}
use Rattle.search.specs.declared.Found.{Found}

-- ---- costs

-- the costs from router i to each of 64 routers
unfoldable pub costs_from : (ℕ → ℕ → ℕ) → ℕ → List ℕ
costs_from w i = map (best w 64 i) (below 64)

-- the cost of router k in an array; 4294967295 behind its end
abbrev pub cost_at : List ℕ → ℕ → ℕ
cost_at costs k = get_or costs k no_cost

-- r is that, over a web's weights
abbrev pub FindsCosts : Web → ℕ → List ℕ → Type 0
FindsCosts web router r = r ≡ costs_from (web_weight web) router

-- ---- next-hop sets

-- over a link of this weight it costs here what it costs there and the weight; weight 0 is no link
abbrev pub as_cheap : ℕ → ℕ → ℕ → Bool
as_cheap weight there here = 0 <? weight && weight + there =? here

-- the next-hop set of router i where c are the costs to a destination: every neighbour k with w i k + c k = c i
unfoldable pub hops_over : (ℕ → ℕ → ℕ) → (ℕ → ℕ) → ℕ → ℕ
hops_over w c i = set_of (λ k. as_cheap (w i k) (c k) (c i)) 64

-- the next-hop sets of router i for each of 64 destinations
unfoldable pub sets_from : (ℕ → ℕ → ℕ) → ℕ → List ℕ
sets_from w i = map (λ d. hops_over w (λ k. best w 64 k d) i) (below 64)

-- both, as one search gives them
unfoldable pub found_from : (ℕ → ℕ → ℕ) → ℕ → Found
found_from w i = record { costs = costs_from w i; sets = sets_from w i }

-- r is that, over a web's weights
abbrev pub FindsAll : Web → ℕ → Found → Type 0
FindsAll web router r = r ≡ found_from (web_weight web) router
