-- `lines::router_lines` meets its contract.
use Prim.Native.Nat.{◌*◌, ◌≤◌}
use Rattle.lines.specs.Lines.{Puts}
use Rattle.lines.proofs.Others.{lines_below}
use Rattle.lines.proofs.router_lines.Given as goal

-- the lines to all below d stand on the page, each of 256 bytes at most
abbrev pub invariant-loop-d : goal.invariant-loop-d
invariant-loop-d l = record {
  put : Puts l.initial.page (lines_below l.found l.router l.d) l.page;
  short : l.page.end ≤ 256 * l.d;
}
