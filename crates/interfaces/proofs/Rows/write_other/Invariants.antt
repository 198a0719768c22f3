-- `interfaces::Rows::write_other` meets its contract.
-- Assumes nothing.
use Rattle.std.proofs.Common.{◌≡◌, ℕ, ◌<◌, get_or}
use Rattle.interfaces.specs.Interfaces.{code_from}
use Rattle.interfaces.proofs.Rows.write_other.Given as goal

abbrev pub invariant-loop-d : goal.invariant-loop-d
invariant-loop-d l = (k : ℕ) → k < l.d → get_or l.row k 0 ≡ code_from l.self.sets.now l.self.codes.now l.previous k
