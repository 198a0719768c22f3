-- What is found over the web of an accepted table, and written: the first of the table's own costs and next-hop sets.
-- Assumes nothing.
use mathlib.Core.Path.{◌≡◌, ◌∙◌, ap}
use mathlib.Core.List.{List, ◌++◌, map}
use Prim.Native.Nat.{ℕ, ◌<◌}
use native.Mathlib.Omega.{arith}
use lib.ListN.{take}
use lib.Seq.{length-take-le}
use Rattle.rules.specs.Words.{below}
use Rattle.rules.specs.Table.{says}
use Rattle.rules.specs.Demand1.{IsAccepted}
use Rattle.rules.specs.FillQuestion.{filled_costs, filled_sets}
use Rattle.rules.proofs.PlaceByPlace.{take_values}
use Rattle.tables.specs.Readings.{outline_of}
use Rattle.tables.specs.declared.Outline.{Outline}
use Rattle.tables.proofs.Asked.{own_routers, few_routers}
use Rattle.webs.specs.Webs.{LaysOut}
use Rattle.webs.specs.declared.Web.{Web}
use Rattle.search.specs.Search.{FindsCosts}
use Rattle.search.proofs.OfTable.{found_costs, found_hops}
use Rattle.routes.specs.Hops.{FindsSets}

-- for the parts that are written
pub ruleset lengths = (few_routers, length-take-le)

module _ (table : List ℕ) (a : IsAccepted table) (t : Outline) (q : t ≡ outline_of table) where
  -- the first of 64 values, one for each router, in front of others
  first_of : (f : ℕ → ℕ) (found written others : List ℕ) → found ≡ map f (below 64) → written ≡ take t.routers found
      → written ++ others ≡ map f (below (says table).routers) ++ others
  first_of f found written others e p =
      ap (λ l. l ++ others)
      (p ∙ ap (take t.routers) e ∙ take_values f 64 t.routers (few_routers table a t q) ∙ ap (λ n. map f (below n)) (own_routers table t q))

  module _ (web : Web) (e : LaysOut table t web) (d : ℕ) (costs : List ℕ) (f : FindsCosts web d costs) (written others : List ℕ) where
    pub costs_found : written ≡ take t.routers costs → written ++ others ≡ filled_costs (says table) d ++ others
    costs_found = first_of _ costs written others (f ∙ found_costs table a t q web e d)

    pub sets_found : d < t.routers → (sets : List ℕ) → FindsSets web costs sets → written ≡ take t.routers sets
        → written ++ others ≡ filled_sets (says table) d ++ others
    sets_found b sets g =
        first_of _ sets written others
        (g ∙ ap (λ (s : ℕ → ℕ). map s (below 64)) (λ j i. found_hops table a t q web e costs d (omega (arith, few_routers table a t q)) f i j))
