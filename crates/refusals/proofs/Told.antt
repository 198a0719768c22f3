-- What is told of a refusal and of an answer.
-- Assumes nothing.
use mathlib.Core.Path.{◌≡◌, refl, ap}
use mathlib.Core.Logic.{◌≢◌}
use mathlib.Core.List.{[], ◌∷◌}
use Prim.Native.Nat.{ℕ}
use native.Mathlib.Omega.{arith}
use Rattle.rules.specs.Words.{◌=?◌, pick, ◌when◌, first◌otherwise◌}
use Rattle.rules.specs.Answers.{Refusal as Told}
use Rattle.refusals.specs.declared.Reason.{Reason}
use Rattle.refusals.specs.declared.Reason.TheVariants.{CutOff, BadTag, BadLength, OutOfRange, NotAbove, TooManyLinks, BytesBehind, TooDifferent, NoSuchRouter, NoRoom, BadViews}
use Rattle.refusals.specs.declared.Which.{Which}
use Rattle.refusals.specs.declared.Which.TheVariants.{Old, New}
use Rattle.refusals.specs.declared.Refusal.{Refusal}
use Rattle.refusals.specs.Refusals.{number_of, table_number, refusal_told}

-- a reason has a number
pub some_number : (reason : Reason) → number_of reason ≢ 0
some_number CutOff e = omega arith
some_number BadTag e = omega arith
some_number BadLength e = omega arith
some_number OutOfRange e = omega arith
some_number NotAbove e = omega arith
some_number TooManyLinks e = omega arith
some_number BytesBehind e = omega arith
some_number TooDifferent e = omega arith
some_number NoSuchRouter e = omega arith
some_number NoRoom e = omega arith
some_number BadViews e = omega arith

-- a reason and a table are had again from their numbers
pub reason_of : ℕ → Reason
reason_of n =
    first CutOff when (n =? 1)
    ∷ BadTag when (n =? 2)
    ∷ BadLength when (n =? 3)
    ∷ OutOfRange when (n =? 4)
    ∷ NotAbove when (n =? 5)
    ∷ TooManyLinks when (n =? 6)
    ∷ BytesBehind when (n =? 7)
    ∷ TooDifferent when (n =? 8)
    ∷ NoSuchRouter when (n =? 9)
    ∷ NoRoom when (n =? 10)
    ∷ []
    otherwise BadViews

pub reason_again : (reason : Reason) → reason_of (number_of reason) ≡ reason
unfolding reason_of
reason_again CutOff = refl
reason_again BadTag = refl
reason_again BadLength = refl
reason_again OutOfRange = refl
reason_again NotAbove = refl
reason_again TooManyLinks = refl
reason_again BytesBehind = refl
reason_again TooDifferent = refl
reason_again NoSuchRouter = refl
reason_again NoRoom = refl
reason_again BadViews = refl

pub table_of : ℕ → Which
table_of n = pick (n =? 0) Old New

pub table_again : (table : Which) → table_of (table_number table) ≡ table
unfolding table_of
table_again Old = refl
table_again New = refl

-- so is a refusal
pub refusal_of : Told → Refusal
refusal_of r = record { reason = reason_of r.number; table = table_of r.table; place = r.place }

pub refusal_again : (r : Refusal) → refusal_of (refusal_told r) ≡ r
unfolding refusal_of
refusal_again r = rw (reason_again r.reason, table_again r.table)

-- what is told of a refusal tells refusals apart
pub told_apart : (r s : Refusal) → refusal_told r ≡ refusal_told s → r ≡ s
told_apart r s e = cc (refusal_again r, refusal_again s, ap refusal_of e)
