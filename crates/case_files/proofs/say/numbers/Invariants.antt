-- What was written so far stands behind what the writer held.
use Rattle.streams.specs.Streams.{Grows}
use Rattle.case_files.proofs.say.numbers.Given as goal

abbrev pub invariant-loop-x : goal.invariant-loop-x
invariant-loop-x g l = Grows (g.W.Write.contents l.fn.out) (g.W.Write.contents l.out)
