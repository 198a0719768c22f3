-- Refusals and answers in document 01's numbers.
use Rattle.std.specs.Prelude.{ℕ, Result, Ok, Err}
use Rattle.rules.specs.Answers.{Refusal, Answer, answered}
use Rattle.refusals.specs.declared.Reason.{Reason}
use Rattle.refusals.specs.declared.Reason.TheVariants.{CutOff, BadTag, BadLength, OutOfRange, NotAbove, TooManyLinks, BytesBehind, TooDifferent, NoSuchRouter, NoRoom, BadViews}
use Rattle.refusals.specs.declared.Refusal.{Refusal as RefusalHere}
use Rattle.refusals.specs.declared.Which.{Which}
use Rattle.refusals.specs.declared.Which.TheVariants.{Old, New}

-- the number of a reason
abbrev pub number_of : Reason → ℕ
number_of CutOff = 1
number_of BadTag = 2
number_of BadLength = 3
number_of OutOfRange = 4
number_of NotAbove = 5
number_of TooManyLinks = 6
number_of BytesBehind = 7
number_of TooDifferent = 8
number_of NoSuchRouter = 9
number_of NoRoom = 10
number_of BadViews = 11

-- 0 for the old or only table, 1 for the new
abbrev pub table_number : Which → ℕ
table_number Old = 0
table_number New = 1

-- a refusal's number, table and place
abbrev pub refusal_told : RefusalHere → Refusal
refusal_told r = record { number = number_of r.reason; table = table_number r.table; place = r.place }

-- a reason at a place of the old or only table, and one without table and place
abbrev pub refused_at : Reason → ℕ → RefusalHere
refused_at reason place = record { reason = reason; table = Old; place = place }

abbrev pub without_place : Reason → RefusalHere
without_place reason = refused_at reason 0

-- the same refusal, of the new table
abbrev pub in_new : RefusalHere → RefusalHere
in_new r = record { reason = r.reason; table = New; place = r.place }

-- an answer's numbers: its values and no refusal, or its refusal and zeros
unfoldable pub answer_told : {T A : Type 0} → A → (T → A) → Result T RefusalHere → Answer A
answer_told zeros values (Ok x) = answered (values x)
answer_told zeros values (Err r) = record { refusal = refusal_told r; values = zeros }

-- the number that tests found; 0 where none refuses
abbrev pub found_number : Result (Unit {0}) Reason → ℕ
found_number (Ok x) = 0
found_number (Err reason) = number_of reason
