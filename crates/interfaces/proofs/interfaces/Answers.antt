-- `interfaces::interfaces` meets its contract: the refusal of the table, 9, 10, or the table written.
-- Assumes nothing.
use lib.ListN.{length}
use Rattle.rules.specs.InterfacesQuestion.{interfaces_refusals, interfaces_answer}
use Rattle.tables.proofs.OnTable.{exit_is, table_refuses, reason_refuses}
use Rattle.interfaces.proofs.Answers.{refused, written}
use Rattle.interfaces.proofs.interfaces.Goals as goal

pub returns-in_err-t : goal.returns-in_err-t
unfolding interfaces_answer
returns-in_err-t c = rw (exit_is _ c.from_residual.ensures.1) (refused _ _ (table_refuses _ _ _ _ _ _ c.in_err-t.ensures))

pub returns-in_err-judge_interfaces : goal.returns-in_err-judge_interfaces
unfolding interfaces_answer
returns-in_err-judge_interfaces c =
    let a = c.args in
    rw (exit_is _ c.from_residual-in_err-judge_interfaces.ensures.1, ← c.in_ok-t.ensures)
    (refused _ _ (reason_refuses _ _ _ c.in_ok-t.t (λ n. interfaces_refusals n a.router (length a.out.now)) _ c.in_err-judge_interfaces.ensures.found))

pub returns : goal.returns
returns c =
    rw (← c.in_ok-t.ensures)
    (written c.in_ok-t.t _ _ c.in_ok-judge_interfaces.ensures.found _ c.size_for.ensures _ c.write_accepted.ensures)
