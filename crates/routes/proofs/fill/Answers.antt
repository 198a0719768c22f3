-- `routes::fill` meets its contract: the refusal of the table, 9, 10, or the outputs filled.
-- Assumes nothing.
use Prim.Native.Nat.{ℕ}
use lib.ListN.{length}
use Rattle.rules.specs.FillQuestion.{fill_refusals, fill_answer}
use Rattle.refusals.proofs.Exits.{exit_is}
use Rattle.tables.proofs.OnTable.{table_refuses, reason_refuses}
use Rattle.routes.proofs.Answers.{refused, filled}
use Rattle.routes.proofs.fill.Goals as goal

pub returns-in_err-t : goal.returns-in_err-t
unfolding fill_answer
returns-in_err-t c = rw (exit_is _ c.from_residual.ensures.1) (refused _ _ (table_refuses _ _ _ _ _ _ c.in_err-t.ensures))

pub returns-in_err-judge_fill : goal.returns-in_err-judge_fill
unfolding fill_answer
returns-in_err-judge_fill c =
    let a = c.args in
    let refusals = λ (n : ℕ). fill_refusals n a.destination (length a.costs.now) (length a.sets.now) in
    rw (exit_is _ c.from_residual-in_err-judge_fill.ensures.1, ← c.in_ok-t.ensures)
    (refused _ _ (reason_refuses _ _ _ c.in_ok-t.t refusals _ c.in_err-judge_fill.ensures))

pub returns : goal.returns
returns c =
    let w = c.fill_accepted.ensures in
    rw (← c.in_ok-t.ensures) (filled c.in_ok-t.t _ _ _ c.in_ok-judge_fill.ensures _ _ w.0 w.1)
