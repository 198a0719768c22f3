-- `tables::accept` meets its contract.
-- Assumes nothing.
use Rattle.refusals.proofs.Exits.{exit_is}
use Rattle.tables.proofs.Asked.{reading_accepted, reading_refused}
use Rattle.tables.proofs.accept.Goals as goal

pub returns-in_err-outline : goal.returns-in_err-outline
returns-in_err-outline c = rw (exit_is _ c.from_residual.ensures.1) (reading_refused _ _ c.in_err-outline.ensures)

pub invariant_of-result : goal.invariant_of-result
invariant_of-result c = let (a, o) = reading_accepted _ _ c.in_ok-outline.ensures in record { accepted = a; outlined = o }
