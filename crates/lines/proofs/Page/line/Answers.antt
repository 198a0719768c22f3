-- `lines::Page::line` meets its contract.
-- Assumes nothing.
use Rattle.rules.specs.Words.{text_from}
use Rattle.rules.specs.Listing.{line_of}
use Rattle.lines.proofs.Pages.{put_more}
use Rattle.lines.proofs.Page.line.Goals as goal

pub returns : goal.returns
unfolding line_of text_from
returns c =
    put_more
    (put_more (put_more (put_more (put_more c.decimal.ensures c.byte.ensures) c.decimal-2.ensures) c.byte-2.ensures) c.cost_and_next.ensures)
    c.byte-3.ensures
