-- Costs and next-hop sets of what the fill's function answers and writes: the least cost of all routes, and the neighbours that lead on at that cost.
-- The statement is proved in proofs/LeastCosts.
use Rattle.std.specs.Prelude.{◌≡◌, ◌↔◌, true, List, ℕ, ◌+◌, ◌<◌, length, get_or, drop, Result, Ok, Err}
use Rattle.rules.specs.Layout.{Table}
use Rattle.rules.specs.Table.{says}
use Rattle.rules.specs.Links.{weight}
use Rattle.rules.specs.Costs.{LeastCost}
use Rattle.rules.specs.NextHops.{has}
use Rattle.rules.specs.Answers.{AllHold}
use Rattle.rules.specs.FillQuestion.{FillInputs, fill_cases}
use Rattle.refusals.specs.declared.Refusal.{Refusal}
use Rattle.routes.specs.Fillings.{Fills}

-- At place i stands the least cost of all routes from router i to d, 4294967295 exactly where there is none, and the set of every neighbour k with
-- weight(i, k) + cost(k, d) = cost(i, d), by the costs as they are written.
pub record LeadTo (t : Table) (d : ℕ) (costs sets : List ℕ) : Type 0 where
  pub least_cost : (i : ℕ) → i < t.routers → LeastCost (weight t) i d (get_or costs i 0)
  pub neighbours : (i k : ℕ) → i < t.routers
      → (has (get_or sets i 0) k ≡ true) ↔ ((k < t.routers) × (0 < weight t i k) × (weight t i k + get_or costs k 0 ≡ get_or costs i 0))

-- every place from n on is as it was lent
abbrev pub SameFrom : ℕ → List ℕ → List ℕ → Type 0
SameFrom n lent after = (length after ≡ length lent) × (drop n after ≡ drop n lent)

-- what is asked rightly is answered by N, with N costs and N sets written and nothing behind them; a refusal, whose number is the question's
-- (`FillQuestion`), changes no place
abbrev pub OfFilling : FillInputs → Result ℕ Refusal → List ℕ → List ℕ → Type 0
OfFilling q (Ok n) costs sets =
    AllHold (fill_cases q)
    × (n ≡ (says q.table).routers)
    × LeadTo (says q.table) q.destination costs sets
    × SameFrom n q.costs costs
    × SameFrom n q.sets sets
OfFilling q (Err r) costs sets = (¬ AllHold (fill_cases q)) × (costs ≡ q.costs) × (sets ≡ q.sets)

-- whatever bytes and numbers arrive
abbrev pub LeastCostsOfTheCode : Type 0
LeastCostsOfTheCode = (q : FillInputs) (r : Result ℕ Refusal) (costs sets : List ℕ) → Fills q r costs sets → OfFilling q r costs sets
