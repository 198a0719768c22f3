-- What the question about two tables together answers, in document 01's numbers.
use Rattle.std.specs.Prelude.{◌≡◌, Result, IfOk}
use Rattle.rules.specs.Answers.{Answer}
use Rattle.rules.specs.PairQuestion.{PairInputs, Pairing, no_pairing, pair_answer}
use Rattle.tables.specs.Readings.{outline_of}
use Rattle.pairs.specs.declared.Pairing.{Pairing as PairingHere}
use Rattle.refusals.specs.Refusals.{answer_told}
use Rattle.refusals.specs.declared.Refusal.{Refusal}

-- the numbers of each case
abbrev pub pairing_numbers : Result PairingHere Refusal → Answer Pairing
pairing_numbers = answer_told no_pairing (λ p. record { routers = p.new.routers; differ = p.differ })

-- the outlines are the tables' own
abbrev pub Outlines : PairInputs → Result PairingHere Refusal → Type 0
Outlines q r = IfOk r (λ p. (p.old ≡ outline_of q.old) × (p.new ≡ outline_of q.new))

-- r answers the question about two tables together
abbrev pub Pairs : PairInputs → Result PairingHere Refusal → Type 0
Pairs q r = (pairing_numbers r ≡ pair_answer q) × Outlines q r
