-- What the fill answers, in document 01's numbers, and what it writes.
use Rattle.std.specs.Prelude.{◌≡◌, List, ℕ, Result}
use Rattle.rules.specs.Answers.{Answer}
use Rattle.rules.specs.FillQuestion.{FillInputs, fill_answer, costs_after, sets_after}
use Rattle.refusals.specs.Refusals.{answer_told}
use Rattle.refusals.specs.declared.Refusal.{Refusal}

-- the numbers of each case
abbrev pub filling_numbers : Result ℕ Refusal → Answer ℕ
filling_numbers = answer_told 0 (λ routers. routers)

-- r answers the fill, and the two outputs hold afterwards what they are to hold
abbrev pub Fills : FillInputs → Result ℕ Refusal → List ℕ → List ℕ → Type 0
Fills q r costs sets = (filling_numbers r ≡ fill_answer q) × (costs ≡ costs_after q) × (sets ≡ sets_after q)
