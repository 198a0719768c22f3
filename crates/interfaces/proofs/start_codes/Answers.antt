-- `interfaces::start_codes` meets its contract: the code at each place is its destination's.
-- Assumes nothing.
use borrow.Author.Rules.{rules}
use Rattle.interfaces.specs.Interfaces.{code_by, start_codes}
use Rattle.routes.proofs.Called.{values_called}
use Rattle.interfaces.proofs.start_codes.Goals as goal

pub returns : goal.returns
unfolding start_codes code_by
returns c = values_called _ _ (λ k y q h. (search (rules, h), search (rules, h))) 64 c.from_fn.ensures.items
