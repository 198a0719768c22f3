-- `lines::header` meets its contract.
-- Assumes nothing.
use borrow.Author.Rules.{rules}
use Rattle.rules.specs.Words.{text_from}
use Rattle.rules.specs.Listing.{header}
use Rattle.lines.proofs.Pages.{put_first}
use Rattle.lines.proofs.header.Goals as goal

pub returns : goal.returns
unfolding text_from header
returns c = put_first c.text.ensures c.begin.ensures.same (search rules) (search rules)
