-- `streams::read_full` meets its contract.
-- Assumes nothing.
use Rattle.std.proofs.Common.{rules, length, ◌-◌}
use Rattle.streams.proofs.Parts.{read_more}
use Rattle.streams.proofs.read_full.Goals as goal

pub loop-done-preserved : goal.loop-done-preserved
loop-done-preserved g c =
    let before = c.loop-done.invariant in
    let read = c.in_ok-got.ensures in
    let at = c.loop-done.done in
    let array = c.loop-done.array in
    (search rules, read_more _ _ _ array c.read.new.buf at (length array - at) c.in_ok-got.got before.0 read.bound.0 before.1 read.bytes.0)
