-- `sets::size` meets its contract.
-- Assumes nothing.
use mathlib.Core.Path.{sym}
use native.Mathlib.Omega.{arith}
use borrow.Author.Rules.{rules}
use lib.Count.{ones-le}
use Rattle.rules.proofs.Sets.{chosen_by_bits}
use Rattle.sets.proofs.size.Goals as goal

pub overflow_cast-result : goal.overflow_cast-result
overflow_cast-result c = omega (arith, ones-le 64 c.args.set (search rules))

pub returns : goal.returns
returns c = sym (chosen_by_bits c.args.set (search rules)).counted
