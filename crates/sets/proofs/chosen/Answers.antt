-- `sets::chosen` meets its contract.
-- Assumes nothing.
use mathlib.Core.Path.{sym}
use native.Mathlib.Omega.{arith}
use borrow.Author.Rules.{rules}
use lib.Count.{trailing_le}
use Rattle.rules.proofs.Sets.{chosen_by_bits}
use Rattle.sets.proofs.chosen.Goals as goal

pub returns-then-set-eq0 : goal.returns-then-set-eq0
returns-then-set-eq0 c = sym ((chosen_by_bits c.args.set (omega arith)).empty c.if-set-eq0.true).0

pub overflow_cast-result : goal.overflow_cast-result
overflow_cast-result c = record { fits = omega (arith, trailing_le 64 c.args.set) }

pub returns : goal.returns
returns c = sym ((chosen_by_bits c.args.set (search rules)).by_zeros (omega arith))
