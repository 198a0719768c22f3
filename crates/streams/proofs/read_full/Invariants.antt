-- The bytes read so far stand at the start of the array, and each read but the last leaves fewer to read.
use Rattle.std.proofs.Common.{length, take, ◌-◌, ◌≤◌}
use Rattle.std.specs.Io.KnownBytes.{Consumes}
use Rattle.streams.proofs.read_full.Given as goal

abbrev pub invariant-loop-done : goal.invariant-loop-done
invariant-loop-done g l = (l.done ≤ length l.array) × Consumes (g.R.Read.remaining l.fn.input) (g.R.Read.remaining l.input) (take l.done l.array)

abbrev pub decreases-loop-done : goal.decreases-loop-done
decreases-loop-done g l = length l.initial.array - l.done
