-- `routes::sets_by` meets its contract: the set at each place is its router's.
-- Assumes nothing.
use borrow.Author.Rules.{rules}
use Rattle.routes.proofs.Called.{values_called}
use Rattle.routes.proofs.sets_by.Goals as goal

pub returns : goal.returns
returns c = values_called _ _ (λ k y q h. (search (rules, h), search (rules, h))) 64 c.from_fn.ensures.items
