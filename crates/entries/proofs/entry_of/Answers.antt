-- `entries::entry_of` meets its contract: the table is refused, 9 refuses, or the entry is given.
-- Assumes nothing.
use mathlib.Core.Path.{ap}
use Rattle.rules.specs.Entries.{code}
use Rattle.rules.specs.EntryQuestion.{entry_refusals, entry_answer}
use Rattle.refusals.proofs.Exits.{exit_is}
use Rattle.tables.proofs.OnTable.{table_refuses, reason_refuses, none_refuses}
use Rattle.entries.proofs.entry_of.Goals as goal

pub returns-in_err-t : goal.returns-in_err-t
unfolding entry_answer
returns-in_err-t c = rw (exit_is _ c.from_residual.ensures.1) (table_refuses _ _ _ _ _ _ c.in_err-t.ensures, tt)

pub returns-in_err-judge_entry : goal.returns-in_err-judge_entry
unfolding entry_answer
returns-in_err-judge_entry c =
    let a = c.args in
    rw (exit_is _ c.from_residual-in_err-judge_entry.ensures.1, ← c.in_ok-t.ensures)
    (reason_refuses _ _ _ c.in_ok-t.t (λ n. entry_refusals n a.router a.previous a.destination) _ c.in_err-judge_entry.ensures, tt)

pub returns : goal.returns
unfolding entry_answer
returns c =
    let a = c.args in
    let told = c.entry_in.ensures in
    rw (← c.in_ok-t.ensures)
    (none_refuses _ _ _ c.in_ok-t.t (λ n. entry_refusals n a.router a.previous a.destination) c.in_ok-judge_entry.ensures _ (ap code told), told)
