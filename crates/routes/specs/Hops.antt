-- Next-hop sets over a web's weights, by the costs to a destination: what is promised of them.
use Rattle.std.specs.Prelude.{◌≡◌, List, map, ℕ}
use Rattle.rules.specs.Words.{below}
use Rattle.webs.specs.Webs.{web_weight}
use Rattle.webs.specs.declared.Web.{Web}
use Rattle.search.specs.Search.{hops_over, cost_at}

-- r is the set of one router
abbrev pub FindsHops : Web → List ℕ → ℕ → ℕ → Type 0
FindsHops web costs router r = r ≡ hops_over (web_weight web) (cost_at costs) router

-- r are the sets of all 64 routers
abbrev pub FindsSets : Web → List ℕ → List ℕ → Type 0
FindsSets web costs r = r ≡ map (hops_over (web_weight web) (cost_at costs)) (below 64)
