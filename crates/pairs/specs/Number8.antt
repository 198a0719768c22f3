-- Number 8 of what the function over two tables answers: they go together exactly where they have the same routers and their weights differ between
-- two routers at most. The statement is proved in proofs/Number8.
use Rattle.std.specs.Prelude.{◌≡◌, ◌↔◌, ℕ, ◌≤◌, Result, Ok, Err}
use Rattle.rules.specs.Layout.{Table}
use Rattle.rules.specs.Table.{says}
use Rattle.rules.specs.Links.{weight}
use Rattle.rules.specs.Demand1.{IsAccepted, OneChange}
use Rattle.rules.specs.Answers.{Refusal, refusal, of_table}
use Rattle.refusals.specs.Refusals.{refusal_told}
use Rattle.refusals.specs.declared.Refusal.{Refusal as RefusalHere}
use Rattle.rules.specs.PairQuestion.{PairInputs}
use Rattle.pairs.specs.declared.Pairing.{Pairing}
use Rattle.pairs.specs.Pairings.{Pairs}

-- the same number of routers, and any two pairs of routers whose weights differ are the same two routers
pub record GoTogether (old new : Table) : Type 0 where
  pub same_routers : old.routers ≡ new.routers
  pub one_change : OneChange (weight old) (weight new)

-- the links that differ are none or one; none exactly where every two routers have the same weight in both tables
pub record LinksDiffer (old new : Table) (differ : ℕ) : Type 0 where
  pub at_most_one : differ ≤ 1
  pub none : (differ ≡ 0) ↔ ((i k : ℕ) → weight old i k ≡ weight new i k)

-- the old table's own number and place, then the new table's, then 8, which has neither table nor place
pub data FirstRefuses (q : PairInputs) : Refusal → Type 0 where
  by_old : ¬ IsAccepted q.old → FirstRefuses q (of_table 0 q.old)
  by_new : IsAccepted q.old → ¬ IsAccepted q.new → FirstRefuses q (of_table 1 q.new)
  by_8 : IsAccepted q.old → IsAccepted q.new → ¬ GoTogether (says q.old) (says q.new) → FirstRefuses q (refusal 8)

-- two accepted tables that go together are answered; else the first of the three refuses
abbrev pub OfPairing : PairInputs → Result Pairing RefusalHere → Type 0
OfPairing q (Ok p) =
    IsAccepted q.old × IsAccepted q.new × GoTogether (says q.old) (says q.new) × LinksDiffer (says q.old) (says q.new) p.differ
OfPairing q (Err r) = FirstRefuses q (refusal_told r)

-- whatever bytes arrive
abbrev pub Number8OfTheCode : Type 0
Number8OfTheCode = (q : PairInputs) (r : Result Pairing RefusalHere) → Pairs q r → OfPairing q r
