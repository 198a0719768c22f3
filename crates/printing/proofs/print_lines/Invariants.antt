-- The header and the pages so far are written.
-- Assumes nothing.
use Rattle.std.specs.Io.KnownBytes.{Appends}
use Rattle.printing.proofs.Pages.{pages_below}
use Rattle.printing.proofs.print_lines.Given as goal

abbrev pub invariant-loop-router : goal.invariant-loop-router
invariant-loop-router g l = Appends (g.W.Write.contents l.fn.out) (g.W.Write.contents l.out) (pages_below l.table l.t l.router)
