-- `names::find` meets its contract. The loop keeps the names that are left, among which the router's stands if it has one.
use Prim.Native.Nat.{◌-◌}
use lib.ListN.{length}
use Rattle.names.proofs.Seeking.{Seeks}
use Rattle.names.proofs.find.Given as goal

abbrev pub invariant-loop-place : goal.invariant-loop-place
invariant-loop-place l = Seeks l.table.bytes.now l.router l.place

abbrev pub decreases-loop-place : goal.decreases-loop-place
decreases-loop-place l = length l.table.bytes.now - l.place
