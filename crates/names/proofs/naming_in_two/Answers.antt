-- `names::naming_in_two` meets its contract.
-- Assumes nothing.
use mathlib.Core.Logic.{inl, inr}
use Rattle.refusals.proofs.Exits.{exit_is}
use Rattle.tables.proofs.OnTables.{new_accepted, new_refused}
use Rattle.names.proofs.Namings.{two_old, two_new, two_above, two_found}
use Rattle.names.proofs.naming_in_two.Goals as goal
use Rattle.names.proofs.naming_in_two.Goals.{then-o-router-via-then-o-router, then-o-router-via-else-o-router+then-n-router}

pub returns-in_err-o : goal.returns-in_err-o
returns-in_err-o c =
    let a = c.args in
    rw (exit_is _ c.from_residual.ensures.1) (two_old a.old a.new _ _ c.in_err-o.ensures)

pub returns-in_err-n : goal.returns-in_err-n
returns-in_err-n c =
    let a = c.args in
    let t = c.in_ok-o.o in
    let n = new_refused a.new _ _ c.accept-2.ensures c.in_err-n.ensures.cases in
    rw (exit_is _ c.from_residual-in_err-n.ensures.1, n.2, ← c.in_ok-o.ensures) (two_new t.bytes a.new _ t.accepted _ n.1)

pub returns-then-o-router : goal.returns-then-o-router
returns-then-o-router c =
    rw (c.into.ensures, ← c.in_ok-o.ensures, ← new_accepted _ _ _ c.accept-2.ensures c.in_ok-n.ensures.cases)
    (two_above c.in_ok-o.o c.in_ok-n.n _
    (elim c.then-o-router.branch [ then-o-router-via-then-o-router w ↦ inl w.if-o-router.true | then-o-router-via-else-o-router+then-n-router w ↦ inr w.if-n-router.true ]))

pub returns : goal.returns
returns c =
    rw (c.find_in_two.ensures, ← c.in_ok-o.ensures, ← new_accepted _ _ _ c.accept-2.ensures c.in_ok-n.ensures.cases)
    (two_found c.in_ok-o.o c.in_ok-n.n _ c.if-o-router.false c.if-n-router.false)
