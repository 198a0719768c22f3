-- `refusals::Reason::number` meets its contract.
-- Assumes nothing.
use mathlib.Core.Path.{◌≡◌, refl}
use Prim.Native.Nat.{◌+◌}
use denote.Enum.Declared.{tag_of}
use Rattle.refusals.specs.Refusals.{number_of}
use Rattle.refusals.specs.declared.Reason.{Reason}
use Rattle.refusals.specs.declared.Reason.TheVariants.{CutOff, BadTag, BadLength, OutOfRange, NotAbove, TooManyLinks, BytesBehind, TooDifferent, NoSuchRouter, NoRoom, BadViews}
use Rattle.refusals.specs.contracts.Reason.{the_type}
use Rattle.refusals.proofs.Reason.number.Goals as goal

by_cases : (reason : Reason) → tag_of the_type reason + 1 ≡ number_of reason
by_cases CutOff = refl
by_cases BadTag = refl
by_cases BadLength = refl
by_cases OutOfRange = refl
by_cases NotAbove = refl
by_cases TooManyLinks = refl
by_cases BytesBehind = refl
by_cases TooDifferent = refl
by_cases NoSuchRouter = refl
by_cases NoRoom = refl
by_cases BadViews = refl

pub returns : goal.returns
returns c = by_cases _
