-- `streams::write_whole` meets its contract.
-- Assumes nothing.
use Rattle.std.proofs.Common.{ℕ, ◌≤◌, length, take, subst, sym}
use Rattle.std.specs.Io.KnownBytes.{Appends}
use Rattle.std.proofs.KnownBytes.{Appends-kept}
use Rattle.streams.proofs.Parts.{written_more}
use Rattle.streams.proofs.write_whole.Goals as goal
use Rattle.streams.proofs.write_whole.Goals.{in-Ok, in-Err+else-ne}

pub loop-preserved : goal.loop-preserved
loop-preserved g c =
    let now = g.W.Write.contents c.write.new.self in
    let so_far = λ (n : ℕ). (n ≤ length c.args.bytes.now) × Appends (g.W.Write.contents c.args.out.now) now (take n c.args.bytes.now) in
    let before = c.loop.invariant in
    elim c.match-write.branch [
      | in-Ok w ↦ subst so_far (sym w.done-is) (written_more _ _ _ c.args.bytes.now c.loop.done w.in-Ok.n before.0 w.in-Ok.ensures.bound before.1 w.in-Ok.ensures.bytes)
      | in-Err+else-ne w ↦ subst so_far (sym w.done-is) (before.0, Appends-kept _ _ _ _ before.1 w.in-Err.ensures.bytes)
    ]
