-- `interfaces::Rows::write_all` meets its contract.
-- Assumes nothing.
use Rattle.std.proofs.Common.{◌≡◌, ◌+◌, ◌*◌, ◌++◌, drop}
use Rattle.interfaces.specs.Interfaces.{cell_from, rows}
use Rattle.interfaces.proofs.Rows.write_all.Given as goal

abbrev pub invariant-loop-previous : goal.invariant-loop-previous
invariant-loop-previous l = l.out ≡ rows (cell_from l.self.sets.now l.self.codes.now l.self.router) l.n l.previous ++ drop ((l.previous + 1) * l.n) l.fn.out
