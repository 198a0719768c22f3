-- `pairs::compare` meets its contract: number 8 by N, then by the count.
-- Assumes nothing.
use Rattle.pairs.proofs.Answers.{other_routers, other_links}
use Rattle.pairs.proofs.compare.Goals as goal

pub returns-then-old-new : goal.returns-then-old-new
returns-then-old-new c = rw c.into.ensures (other_routers c.args.old c.args.new c.if-old-new.true)

pub returns-then-differ-gt1 : goal.returns-then-differ-gt1
returns-then-differ-gt1 c =
    rw c.into-then-differ-gt1.ensures (other_links c.args.old c.args.new _ c.count_differing-differ.ensures c.if-differ-gt1.true)
