-- The answer about an interface table, and the output afterwards, are settled: each case is had again from its numbers.
-- Assumes nothing.
use mathlib.Core.Path.{refl}
use Rattle.rules.specs.InterfacesQuestion.{InterfacesInputs, interfaces_answer, interfaces_after}
use Rattle.rules.specs.Promises.{SettlesBoth}
use Rattle.rules.proofs.Uniqueness.{pairs_settle, value_settled}
use Rattle.refusals.proofs.Settled.{numbers_settled}
use Rattle.interfaces.specs.Interfaces.{Writes}

-- the answer, and the output afterwards
pub interfaces_settled : (q : InterfacesInputs) → SettlesBoth (Writes q)
interfaces_settled q = pairs_settle _ _ _ _ (numbers_settled 0 (λ b. b) (λ b. b) (λ b. refl) (interfaces_answer q)) (value_settled (interfaces_after q))
