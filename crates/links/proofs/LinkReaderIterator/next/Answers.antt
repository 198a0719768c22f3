-- The reader as an iterator: a link that is told lies within the table, so fewer bytes are left behind it.
-- Assumes nothing.
use Rattle.links.proofs.Runs.{goes}
use Rattle.links.proofs.LinkReaderIterator.next.Goals as goal

pub returns-clause-goes : goal.returns-clause-goes
returns-clause-goes c = goes _ _ _ c.next_link.ensures
