-- `names::find` meets its contract. The loop keeps the names that are left, among which the router's stands if it has one.
-- Assumes nothing.
use mathlib.Core.Path.{refl}
use Rattle.names.proofs.Seeking.{seeks_none, seeks_found}
use Rattle.names.proofs.find.Goals as goal

pub returns-then-bytes-place : goal.returns-then-bytes-place
returns-then-bytes-place c = seeks_found c.loop-place.invariant c.loop-place-test.true _ refl _ c.if-bytes-place.true

pub returns : goal.returns
returns c = seeks_none c.loop-place.invariant _ c.loop-place-test.false
