-- `lines::Page::decimal` meets its contract: one digit, two digits, or all but the last and the last.
-- Assumes nothing.
use mathlib.Core.Path.{sym}
use Rattle.rules.proofs.Decimals.{decimal_one, decimal_more}
use Rattle.lines.proofs.Pages.{put_more, put_as}
use Rattle.lines.proofs.Decimals.{two_digits}
use Rattle.lines.proofs.Page.+decimal.Goals as goal

pub returns-then-x-lt10 : goal.returns-then-x-lt10
returns-then-x-lt10 t c = put_as c.byte.ensures (sym (decimal_one _ c.if-x-lt10.true))

pub returns-then-x-lt100 : goal.returns-then-x-lt100
returns-then-x-lt100 t c =
    put_as (put_more c.byte-then-x-lt100.ensures c.byte-then-x-lt100-2.ensures) (sym (two_digits _ c.if-x-lt10.false c.if-x-lt100.true))

pub returns : goal.returns
returns t c = put_as (put_more c.decimal.ensures c.byte-2.ensures) (sym (decimal_more _ c.ranges.x.fits c.if-x-lt10.false))
