-- What judging and the reading question answer, in document 01's numbers.
use Rattle.std.specs.Prelude.{◌≡◌, List, [], ◌∷◌, ℕ, length, Result, IfOk}
use Rattle.rules.specs.Words.{◌<?◌, pick}
use Rattle.rules.specs.Layout.{Bytes, tag_link}
use Rattle.rules.specs.Table.{Record, Judged, accepted, refused, judge, read, records_of, table_of, says}
use Rattle.rules.specs.Answers.{Answer, answered, refused_with}
use Rattle.rules.specs.ReadQuestion.{Reading, no_reading, read_answer}
use Rattle.refusals.specs.Refusals.{answer_told, refused_at}
use Rattle.refusals.specs.declared.Refusal.{Refusal}
use Rattle.records.specs.declared.Step.{Step as StepHere}
use Rattle.records.specs.declared.Step.TheVariants as step
use Rattle.tables.specs.declared.Judged.{Judged as JudgedHere}
use Rattle.tables.specs.declared.Outline.{Outline}

-- ---- judging up to the end record

-- N, how many links, and where the table ends
pub record Judging : Type 0 where
  pub routers : ℕ
  pub links : ℕ
  pub end : ℕ

abbrev pub nothing_judged : Judging
nothing_judged = record { routers = 0; links = 0; end = 0 }

-- what judging answers, from what the rules judge
unfoldable pub judging_answer : Judged → Answer Judging
judging_answer (accepted rs end) = answered (record { routers = (table_of rs).routers; links = length (table_of rs).links; end = end })
judging_answer (refused number place) = refused_with nothing_judged number 0 place

-- the numbers of each case
abbrev pub judged_numbers : Result JudgedHere Refusal → Answer Judging
judged_numbers = answer_told nothing_judged (λ j. record { routers = j.routers; links = j.links; end = j.end })

-- r is what judging answers to these bytes
abbrev pub JudgedTo : List ℕ → Result JudgedHere Refusal → Type 0
JudgedTo bytes r = judged_numbers r ≡ judging_answer (judge bytes)

-- a record by its tag and contents; its place does not matter to what is kept
abbrev pub record_with : ℕ → List ℕ → Record
record_with tag contents = record { place = 0; tag = tag; contents = contents }

-- the step gave a refusal, and which
abbrev pub IsRefused : StepHere → Type 0
IsRefused (step.Record tag end) = ⊥
IsRefused (step.Refused reason place) = Unit {0}

abbrev pub GivesRefusal : StepHere → Refusal → Type 0
GivesRefusal (step.Record tag end) r = ⊥
GivesRefusal (step.Refused reason place) r = r ≡ refused_at reason place

-- ---- the reading question

-- where the links start: the place of the first record whose tag is not below a link's
unfoldable pub links_place : List Record → ℕ
links_place [] = 0
links_place (r ∷ rs) = pick (r.tag <? tag_link) (links_place rs) r.place

-- the same of a byte string; 0 where it is refused
unfoldable pub links_start : List ℕ → ℕ
links_start bytes = links_place (records_of (read bytes))

-- the numbers of each case
abbrev pub reading_numbers : Result Outline Refusal → Answer Reading
reading_numbers = answer_told no_reading (λ t. record { routers = t.routers; links = t.links })

-- the outline of a table: N, how many links, and where they start
abbrev pub outline_of : List ℕ → Outline
outline_of bytes = record { routers = (says bytes).routers; links = length (says bytes).links; start = links_start bytes }

-- the outline is the table's own
abbrev pub Outlined : List ℕ → Result Outline Refusal → Type 0
Outlined bytes r = IfOk r (λ t. t ≡ outline_of bytes)

-- r is what the reading question answers to these bytes, and they are bytes
abbrev pub Reads : List ℕ → Result Outline Refusal → Type 0
Reads bytes r = (reading_numbers r ≡ read_answer bytes) × Outlined bytes r × Bytes bytes
