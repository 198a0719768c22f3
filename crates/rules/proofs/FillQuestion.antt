-- What is proved of the fill.
-- Assumes nothing.
use mathlib.Core.Path.{refl}
use mathlib.Core.List.{[], ◌∷◌}
use Prim.Native.Nat.{ℕ, ◌≤◌}
use native.Mathlib.Omega.{arith}
use lib.Dec.{ltb}
use lib.ListN.{length}
use Rattle.rules.specs.Table.{says}
use Rattle.rules.specs.Answers.{Answered, Exactly}
use Rattle.rules.specs.FillQuestion.{FillInputs, fill_refusals, fill_answer, costs_after, sets_after, fill_cases, FillProved}
use Rattle.rules.proofs.Basics.{length_values}
use Rattle.rules.proofs.Answers.{tables_first, listed_numbers, outputs_hold, asks-<, asks-≤, asks_both}

pub fill_proved : (q : FillInputs) → FillProved q
unfolding fill_answer fill_refusals costs_after sets_after
fill_proved q = record {
  exactly = x;
  refusals = listed_numbers _ (q.table ∷ []) (fill_refusals n q.destination (length q.costs) (length q.sets)) 0 n;
  costs_held = outputs_hold _ (fill_answer q) n _ q.costs (λ e. (length_values _ n, (room e).0));
  sets_held = outputs_hold _ (fill_answer q) n _ q.sets (λ e. (length_values _ n, (room e).1));
}
  where
    n : ℕ
    n = (says q.table).routers

    x : Exactly (fill_cases q) 0 n (fill_answer q)
    x =
        tables_first _ (q.table ∷ []) (fill_refusals n q.destination (length q.costs) (length q.sets)) _ 0 n (
          refl,
          asks-< n q.destination,
          (
            refl,
            asks_both (ltb (length q.costs) n) (ltb (length q.sets) n) (asks-≤ (length q.costs) n) (asks-≤ (length q.sets) n),
            tt,
          ),
        )
        (omega arith, (omega arith, tt))

    room : Answered (fill_answer q) → (n ≤ length q.costs) × (n ≤ length q.sets)
    room e = let (a, (b, (r, z))) = x.asked.0 e in r
