-- `names::name_in_two` meets its contract.
-- Assumes nothing.
use mathlib.Core.Logic.{inl, inr}
use Rattle.names.proofs.Namings.{two_empty, two_within}
use Rattle.names.proofs.name_in_two.Goals as goal
use Rattle.names.proofs.name_in_two.Goals.{in_default-via-in-Ok+in_default, in_default-via-in_default}

pub returns-in_default : goal.returns-in_default
returns-in_default c =
    two_empty _ _ _ c.naming_in_two.result c.naming_in_two.ensures (
    elim c.in_default.branch [
      | in_default-via-in-Ok+in_default w ↦ inl cc
      | in_default-via-in_default w ↦ inr (w.in_default.field-0, w.in_default.is)
    ]
    ) _ c.part_at.ensures

pub part_at-requires-in-Old : goal.part_at-requires-in-Old
part_at-requires-in-Old c =
    let a = c.args in
    rw c.in-Old.is at (two_within a.old a.new _ _ (rw c.in-Ok-Some.field-0-is at c.in-Ok-Some.ensures))

pub part_at-requires-in-New : goal.part_at-requires-in-New
part_at-requires-in-New c =
    let a = c.args in
    rw c.in-New.is at (two_within a.old a.new _ _ (rw c.in-Ok-Some.field-0-is at c.in-Ok-Some.ensures))
