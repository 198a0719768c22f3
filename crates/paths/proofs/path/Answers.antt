-- `paths::path` meets its contract.
-- Assumes nothing.
use native.Mathlib.Omega.{arith}
use Rattle.std.proofs.lemmas.Result.{err_from_is_err_and}
use Rattle.paths.proofs.Answers.{pair_refused, some_routers, reason_refused, followable, numbers_fit}
use Rattle.paths.proofs.path.Goals as goal

pub returns-in_err-tables : goal.returns-in_err-tables
returns-in_err-tables c =
    let p = err_from_is_err_and c.from_residual.result c.from_residual.ensures.1 in
    rw (p.1, p.2) (pair_refused _ _ c.in_err-tables.ensures)

pub judge_packet-requires : goal.judge_packet-requires
judge_packet-requires c = some_routers c.in_ok-tables.tables

pub returns-in_err-judge_packet : goal.returns-in_err-judge_packet
returns-in_err-judge_packet c =
    let p = err_from_is_err_and c.from_residual-in_err-judge_packet.result c.from_residual-in_err-judge_packet.ensures.1 in
    let (o, n) = c.in_ok-tables.ensures in
    rw (p.1, p.2, ← o, ← n) (reason_refused c.in_ok-tables.tables _ _ _ _ _ c.in_err-judge_packet.ensures)

pub overflow_cast-source : goal.overflow_cast-source
overflow_cast-source c = omega (arith, numbers_fit c.in_ok-tables.tables _ _ _ c.in_ok-judge_packet.ensures)

pub overflow_cast-destination : goal.overflow_cast-destination
overflow_cast-destination c = omega (arith, numbers_fit c.in_ok-tables.tables _ _ _ c.in_ok-judge_packet.ensures)

pub path_in-requires : goal.path_in-requires
path_in-requires c = followable c.in_ok-tables.tables _ _ _ _ c.in_ok-judge_packet.ensures

pub returns : goal.returns
returns c = let (o, n) = c.in_ok-tables.ensures in rw (← o, ← n) c.path_in.ensures
