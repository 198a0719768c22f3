-- What the fill answers and what it leaves in the outputs: a refusal leaves both, else both are filled.
-- Assumes nothing.
use mathlib.Core.Path.{◌≡◌, sym, ◌∙◌}
use mathlib.Core.List.{List, ◌++◌}
use Prim.Native.Nat.{ℕ}
use lib.ListN.{length, drop}
use Rattle.std.specs.Prelude.{Ok, Err}
use Rattle.rules.specs.Table.{says}
use Rattle.rules.specs.Answers.{number_in}
use Rattle.rules.specs.FillQuestion.{FillInputs, fill_refusals, fill_answer, filled_costs, filled_sets, costs_after, sets_after}
use Rattle.rules.proofs.Basics.{length_values}
use Rattle.refusals.specs.declared.Refusal.{Refusal}
use Rattle.tables.specs.declared.accepted.Table.{Table}
use Rattle.tables.proofs.Asked.{own_routers}
use Rattle.tables.proofs.OnTable.{none_refuses, output_left, output_written}
use Rattle.routes.specs.Fillings.{filling_numbers, Fills}

pub refused : (q : FillInputs) (r : Refusal) → filling_numbers (Err r) ≡ fill_answer q → Fills q (Err r) q.costs q.sets
unfolding costs_after sets_after
refused q r e = (e, output_left _ _ _ _ _ r e, output_left _ _ _ _ _ r e)

module _ (t : Table) (d : ℕ) (costs sets : List ℕ) where
  abbrev n : ℕ
  n = t.outline.routers

  own : n ≡ (says t.bytes.now).routers
  own = own_routers _ t.outline t.outlined

  pub filled : 0 ≡ number_in (fill_refusals n d (length costs) (length sets)) → (costs_new sets_new : List ℕ)
      → costs_new ≡ filled_costs (says t.bytes.now) d ++ drop n costs → sets_new ≡ filled_sets (says t.bytes.now) d ++ drop n sets
      → Fills (record { table = t.bytes.now; destination = d; costs = costs; sets = sets }) (Ok n) costs_new sets_new
  unfolding fill_answer costs_after sets_after
  filled e costs_new sets_new x y =
      let told = none_refuses 0 _ (λ n. n) t (λ n. fill_refusals n d (length costs) (length sets)) e n own in (
        told,
        output_written _ _ _ _ _ _ told _ (length_values _ _ ∙ sym own) _ x,
        output_written _ _ _ _ _ _ told _ (length_values _ _ ∙ sym own) _ y,
      )
