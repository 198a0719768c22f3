-- What is proved of the chosen hop and the size of a set.
-- Assumes nothing.
use mathlib.Core.Path.{refl}
use Rattle.rules.specs.ChosenQuestion.{ChosenInputs, chosen_answer, ChosenProved}
use Rattle.rules.proofs.Sets.{chosen_by_bits}

pub chosen_proved : (q : ChosenInputs) → ChosenProved q
unfolding chosen_answer
chosen_proved q = record { given = refl; by_bits = chosen_by_bits q.set }
