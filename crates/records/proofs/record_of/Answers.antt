-- `records::record_of` meets its contract.
-- Assumes nothing.
use native.Mathlib.Omega.{arith}
use Rattle.std.proofs.lemmas.Grind.{common_steps}
use Rattle.std.proofs.lemmas.Bool.Decides.{nat_tests}
use Rattle.rules.specs.Table.{step}
use Rattle.refusals.proofs.Told.{some_number}
use Rattle.records.specs.Steps.{step_of}
use Rattle.records.proofs.Stepping.{contents_there}
use Rattle.records.proofs.record_of.Goals as goal

pub returns-in-Err : goal.returns-in-Err
unfolding step step_of
returns-in-Err c =
    let e = contents_there c.args.table.now c.args.place c.from-size.result in
    let n = c.in-Err.ensures in
    let s = some_number c.in-Err.reason in
    grind (arith, common_steps, nat_tests)

pub returns : goal.returns
unfolding step step_of
returns c =
    let e = contents_there c.args.table.now c.args.place c.from-size.result in
    let n = c.in_default.ensures in
    grind (arith, common_steps, nat_tests)
