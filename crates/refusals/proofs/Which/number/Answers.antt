-- `refusals::Which::number` meets its contract.
-- Assumes nothing.
use mathlib.Core.Path.{◌≡◌, refl}
use denote.Enum.Declared.{tag_of}
use Rattle.refusals.specs.Refusals.{table_number}
use Rattle.refusals.specs.declared.Which.{Which}
use Rattle.refusals.specs.declared.Which.TheVariants.{Old, New}
use Rattle.refusals.specs.contracts.Which.{the_type}
use Rattle.refusals.proofs.Which.number.Goals as goal

by_cases : (which : Which) → tag_of the_type which ≡ table_number which
by_cases Old = refl
by_cases New = refl

pub returns : goal.returns
returns c = by_cases _
