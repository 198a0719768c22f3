-- `lines::refusal_line` meets its contract.
-- Assumes nothing.
use borrow.Author.Rules.{rules}
use Rattle.rules.specs.Words.{text_from}
use Rattle.rules.specs.Listing.{refusal_line}
use Rattle.lines.proofs.Pages.{put_more, put_first}
use Rattle.lines.proofs.refusal_line.Goals as goal

pub returns : goal.returns
unfolding refusal_line text_from
returns c =
    put_first
    (put_more (put_more (put_more (put_more c.text.ensures c.decimal-page.ensures) c.text-2.ensures) c.decimal.ensures) c.byte.ensures)
    c.begin.ensures.same (search rules) (search rules)
