-- Each promise of this crate allows one answer: two numbers, and the outputs beside them, that it allows are equal.
-- Assumes nothing.
use mathlib.Core.Path.{sym, ◌∙◌}
use mathlib.Core.List.{List}
use Prim.Native.Nat.{ℕ}
use Rattle.rules.specs.Promises.{Settles, SettlesBoth}
use Rattle.rules.specs.PairQuestion.{PairInputs}
use Rattle.rules.specs.FillQuestion.{FillInputs}
use Rattle.rules.specs.ChosenQuestion.{ChosenInputs}
use Rattle.rules.specs.EntryQuestion.{EntryInputs}
use Rattle.rules.specs.InterfacesQuestion.{InterfacesInputs}
use Rattle.rules.specs.PathQuestion.{PathInputs}
use Rattle.rules.specs.NameQuestions.{NameInputs, TwoNamesInputs}
use Rattle.rules.proofs.Uniqueness.{value_settled, pairs_settle}
use Rattle.tracer.specs.Packed.{PacksRead, PacksPair, PacksFill, PacksChosen, PacksEntry, PacksInterfaces, PacksPath, PacksName, PacksTwoNames}

pub tracer_read_settled : (table : List ℕ) → Settles (PacksRead table)
tracer_read_settled table = value_settled _

pub tracer_pair_settled : (q : PairInputs) → Settles (PacksPair q)
tracer_pair_settled q = value_settled _

pub tracer_fill_settled : (q : FillInputs) → Settles (λ (all : ℕ × List ℕ × List ℕ). PacksFill q all.0 all.1 all.2)
tracer_fill_settled q x y p r = λ i. ((p.0 ∙ sym r.0) i, (p.1 ∙ sym r.1) i, (p.2 ∙ sym r.2) i)

pub tracer_chosen_settled : (q : ChosenInputs) → Settles (PacksChosen q)
tracer_chosen_settled q = value_settled _

pub tracer_entry_settled : (q : EntryInputs) → Settles (PacksEntry q)
tracer_entry_settled q = value_settled _

pub tracer_interfaces_settled : (q : InterfacesInputs) → SettlesBoth (PacksInterfaces q)
tracer_interfaces_settled q = pairs_settle _ _ _ _ (value_settled _) (value_settled _)

pub tracer_path_settled : (q : PathInputs) → SettlesBoth (PacksPath q)
tracer_path_settled q = pairs_settle _ _ _ _ (value_settled _) (value_settled _)

pub tracer_name_settled : (q : TwoNamesInputs) → Settles (PacksTwoNames q)
tracer_name_settled q = value_settled _

pub tracer_name_in_settled : (q : NameInputs) → Settles (PacksName q)
tracer_name_in_settled q = value_settled _
