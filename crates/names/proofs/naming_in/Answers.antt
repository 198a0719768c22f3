-- `names::naming_in` meets its contract.
-- Assumes nothing.
use Rattle.refusals.proofs.Exits.{exit_is}
use Rattle.names.proofs.Namings.{in_refused, in_above, in_found}
use Rattle.names.proofs.naming_in.Goals as goal

pub returns-in_err-t : goal.returns-in_err-t
returns-in_err-t c = rw (exit_is _ c.from_residual.ensures.1) (in_refused c.args.table _ _ c.in_err-t.ensures)

pub returns-then-t-router : goal.returns-then-t-router
returns-then-t-router c = rw (c.into.ensures, ← c.in_ok-t.ensures) (in_above c.in_ok-t.t _ c.if-t-router.true)

pub returns : goal.returns
returns c = rw (c.find.ensures, ← c.in_ok-t.ensures) (in_found c.in_ok-t.t _ c.if-t-router.false)
