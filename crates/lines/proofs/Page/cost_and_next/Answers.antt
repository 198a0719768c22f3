-- `lines::Page::cost_and_next` meets its contract.
-- Assumes nothing.
use mathlib.Core.Path.{sym}
use native.Mathlib.Omega.{arith}
use Rattle.rules.specs.Words.{text_from}
use Rattle.lines.proofs.Pages.{put_more, put_as}
use Rattle.lines.proofs.Lines.{no_cost_text, cost_text}
use Rattle.lines.proofs.Page.cost_and_next.Goals as goal

pub returns-then-cost-eq-NO_COST : goal.returns-then-cost-eq-NO_COST
unfolding text_from
returns-then-cost-eq-NO_COST c = put_as c.text.ensures (sym (no_cost_text _ _ c.if-cost-eq-NO_COST.true))

pub returns : goal.returns
unfolding text_from
returns c = put_as (put_more (put_more c.decimal.ensures c.byte.ensures) c.members.ensures) (sym (cost_text _ _ (omega arith)))
