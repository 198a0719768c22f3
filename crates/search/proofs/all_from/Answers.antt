-- `search::all_from` meets its contract.
-- Assumes nothing.
use mathlib.Core.Path.{refl}
use Rattle.search.proofs.Gathering.{both_found}
use Rattle.search.proofs.all_from.Goals as goal

pub returns : goal.returns
returns c = both_found _ _ _ _ c.search_from-costs.ensures.0 (c.search_from-costs.ensures.1 _ c.no_sets-sets.ensures refl)
