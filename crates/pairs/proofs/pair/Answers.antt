-- `pairs::pair` meets its contract.
-- Assumes nothing.
use Rattle.refusals.proofs.Exits.{exit_is}
use Rattle.pairs.proofs.Answers.{pair_refused, pair_answered}
use Rattle.pairs.proofs.pair.Goals as goal

pub returns-in_err-tables : goal.returns-in_err-tables
returns-in_err-tables c = rw (exit_is _ c.from_residual.ensures.1) (pair_refused c.args.old c.args.new _ c.in_err-tables.ensures)

pub returns : goal.returns
returns c = let (p, q) = c.in_ok-tables.ensures in pair_answered c.args.old c.args.new c.in_ok-tables.tables p q
