-- The reading step's answer, as document 01's step gives it.
use Rattle.std.specs.Prelude.{◌≡◌, List, [], ◌∷◌, not, ℕ, ◌+◌, ◌-◌, ◌*◌, take, drop}
use Rattle.rules.specs.Words.{◌when◌, first◌otherwise◌}
use Rattle.rules.specs.Table.{Record, Kept, Step, good, bad, step, contents_fit, not_above, too_many}
use Rattle.refusals.specs.Refusals.{number_of}
use Rattle.records.specs.declared.Kept.{Kept as KeptHere}
use Rattle.records.specs.declared.Step.{Step as StepHere}
use Rattle.records.specs.declared.Step.TheVariants.{Record as RecordHere, Refused}

-- two bytes as one number, high byte first
abbrev pub Joins : ℕ → ℕ → ℕ → Type 0
Joins high low r = r ≡ high * 256 + low

-- what is kept, in the rules' words
abbrev pub kept_of : KeptHere → Kept
kept_of k = record { routers = k.routers; tag = k.tag; last = k.last; links = k.links }

-- a record of a table: the contents stand from behind its header up to its end
abbrev pub record_from : List ℕ → ℕ → ℕ → ℕ → Record
record_from bytes place tag end = record { place = place; tag = tag; contents = take (end - (place + 3)) (drop (place + 3) bytes) }

-- the step's answer for the record at a place
unfoldable pub step_of : List ℕ → ℕ → StepHere → Step
step_of bytes place (RecordHere tag end) = good (record_from bytes place tag end) end
step_of bytes place (Refused reason at) = bad (number_of reason) at

-- r is what the step answers at a place, with what was kept
abbrev pub StepsTo : List ℕ → ℕ → KeptHere → StepHere → Type 0
StepsTo bytes place kept r = step_of bytes place r ≡ step (kept_of kept) place (drop place bytes)

-- the number that refuses the contents of a record, judged as a part of their own: 4, 5, 6, and 0 for none
abbrev pub contents_number : Kept → ℕ → List ℕ → ℕ
contents_number kept tag contents =
    first 4 when not (contents_fit kept.routers tag contents)
    ∷ 5 when not_above kept tag contents
    ∷ 6 when too_many kept tag
    ∷ []
    otherwise 0
