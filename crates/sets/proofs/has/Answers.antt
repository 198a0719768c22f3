-- `sets::has` meets its contract.
-- Assumes nothing.
use mathlib.Core.Path.{sym}
use Rattle.rules.proofs.Sets.{has_below}
use Rattle.sets.proofs.Bits.{shifted_down}
use borrow.Author.Rules.{rules}
use Rattle.sets.proofs.has.Goals as goal

pub returns-then-k-ge64 : goal.returns-then-k-ge64
returns-then-k-ge64 c = sym (has_below c.args.set 64 c.args.k (search rules) c.if-k-ge64.true)

pub returns : goal.returns
returns c = shifted_down _ _
