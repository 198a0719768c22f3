-- `pairs::count_differing` meets its contract. The loop's invariant is the walk along both tables; the measure falls because the pairs in front rise.
use Prim.Native.Nat.{◌+◌, ◌-◌}
use Rattle.pairs.specs.Fronts.{no_pair}
use Rattle.pairs.proofs.Fronts.{Walk}
use Rattle.pairs.proofs.count_differing.Given as goal

abbrev pub invariant-loop-o : goal.invariant-loop-o
invariant-loop-o l = Walk l.old.bytes.now l.new.bytes.now l.o l.n l.count

abbrev pub decreases-loop-o : goal.decreases-loop-o
decreases-loop-o l = (no_pair - l.o.pair) + (no_pair - l.n.pair)
