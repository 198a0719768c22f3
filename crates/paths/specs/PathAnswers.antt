-- What the path question answers, in document 01's numbers, and what it writes.
use Rattle.std.specs.Prelude.{◌≡◌, List, ◌++◌, ℕ, ◌+◌, length, take, drop, Result}
use Rattle.rules.specs.Words.{◌<?◌, pick}
use Rattle.rules.specs.Table.{says}
use Rattle.rules.specs.Paths.{outcome_code}
use Rattle.rules.specs.Answers.{Answer}
use Rattle.rules.specs.PathQuestion.{PathInputs, Ending, no_ending, path_answer, trace_after, PathNumbers, GoodViews}
use Rattle.pairs.specs.declared.both.Together.{Together}
use Rattle.paths.specs.declared.Outcome.{Outcome}
use Rattle.paths.specs.declared.Ending.{Ending as EndingHere}
use Rattle.paths.specs.Following.{outcome_told}
use Rattle.refusals.specs.Refusals.{answer_told, found_number}
use Rattle.refusals.specs.declared.Reason.{Reason}
use Rattle.refusals.specs.declared.Refusal.{Refusal}

-- 128 delivered, 129 discarded, 130 no route, 132 lost
abbrev pub code_of : Outcome → ℕ
code_of o = outcome_code (outcome_told o)

-- the numbers of an ending, and of each case
abbrev pub ending_numbers : EndingHere → Ending
ending_numbers e = record { outcome = code_of e.outcome; router = e.router; hops = e.hops }

abbrev pub path_answer_numbers : Result EndingHere Refusal → Answer Ending
path_answer_numbers = answer_told no_ending ending_numbers

-- a packet has ended: 10 refuses a trace that has no room for n routers, else one router more than its hops is written
abbrev pub Tells : EndingHere → ℕ → List ℕ → List ℕ → Result (Unit {0}) Reason → List ℕ → Type 0
Tells e n visited trace r after =
    (found_number r ≡ pick (length trace <? n) 10 0)
    × (after ≡ pick (length trace <? n) trace (take (e.hops + 1) visited ++ drop (e.hops + 1) trace))

-- what is asked of two tables that go together
abbrev pub asked_of : Together → ℕ → ℕ → List ℕ → List ℕ → PathInputs
asked_of t s d views trace = record { old = t.old.bytes.now; new = t.new.bytes.now; source = s; destination = d; views = views; trace = trace }

-- of tables that go together: neither 9 nor 11 refuses
pub record Followable (q : PathInputs) : Type 0 where
  pub numbers : PathNumbers (says q.new).routers q
  pub views : GoodViews (says q.new).routers q.views

-- r answers the path question, and the trace holds afterwards what it is to hold
abbrev pub AnswersPath : PathInputs → Result EndingHere Refusal → List ℕ → Type 0
AnswersPath q r trace = (path_answer_numbers r ≡ path_answer q) × (trace ≡ trace_after q)

-- r is the code of an outcome
abbrev pub Codes : Outcome → ℕ → Type 0
Codes outcome r = r ≡ code_of outcome
