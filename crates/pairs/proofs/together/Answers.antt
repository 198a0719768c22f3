-- `pairs::together` meets its contract: the refusal of the table that is refused first, or the comparison.
-- Assumes nothing.
use Rattle.refusals.proofs.Exits.{exit_is}
use Rattle.tables.proofs.OnTables as both
use Rattle.pairs.proofs.Answers.{old_refused, new_refused}
use Rattle.pairs.proofs.together.Goals as goal

pub returns-in_err-o : goal.returns-in_err-o
returns-in_err-o c =
    let a = c.args in
    rw (exit_is _ c.from_residual.ensures.1) (old_refused a.old a.new _ c.in_err-o.ensures)

pub returns-in_err-n : goal.returns-in_err-n
returns-in_err-n c =
    let a = c.args in
    let n = both.new_refused a.new _ _ c.accept-2.ensures c.in_err-n.ensures.cases in
    rw (exit_is _ c.from_residual-in_err-n.ensures.1, n.2) (new_refused a.old a.new c.in_ok-o.o c.in_ok-o.ensures _ n.1)
