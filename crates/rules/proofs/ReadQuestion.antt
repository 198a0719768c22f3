-- What is proved of the reading question.
-- Assumes nothing.
use mathlib.Core.List.{List, [], ◌∷◌}
use Prim.Native.Nat.{ℕ}
use Rattle.rules.specs.ReadQuestion.{read_answer, ReadProved}
use Rattle.rules.proofs.Answers.{tables_first, listed_numbers}

pub read_proved : (table : List ℕ) → ReadProved table
unfolding read_answer
read_proved table = record { exactly = tables_first _ (table ∷ []) [] [] _ _ tt tt; refusals = listed_numbers _ (table ∷ []) [] _ _ }
