-- `names::name_in` meets its contract.
-- Assumes nothing.
use mathlib.Core.Logic.{inl, inr}
use Rattle.names.proofs.Namings.{in_empty, in_within}
use Rattle.names.proofs.name_in.Goals as goal
use Rattle.names.proofs.name_in.Goals.{in_default-via-in-Ok+in_default, in_default-via-in_default}

pub returns-in_default : goal.returns-in_default
returns-in_default c =
    in_empty _ _ c.naming_in.result c.naming_in.ensures (
    elim c.in_default.branch [
      | in_default-via-in-Ok+in_default w ↦ inl cc
      | in_default-via-in_default w ↦ inr (w.in_default.field-0, w.in_default.is)
    ]
    ) _ c.part_at.ensures

pub part_at-requires-2 : goal.part_at-requires-2
part_at-requires-2 c = in_within c.args.table _ _ (rw c.in-Ok-Some.field-0-is at c.in-Ok-Some.ensures)
