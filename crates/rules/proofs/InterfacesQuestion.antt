-- What is proved of the interface table question.
-- Assumes nothing.
use mathlib.Core.Path.{refl}
use mathlib.Core.List.{[], ◌∷◌}
use Prim.Native.Nat.{ℕ, ◌≤◌}
use native.Mathlib.Omega.{arith}
use lib.ListN.{length}
use Rattle.rules.specs.Table.{says}
use Rattle.rules.specs.Answers.{Answered, Exactly}
use Rattle.rules.specs.InterfacesQuestion.{InterfacesInputs, cells, interfaces_refusals, interfaces_answer, interfaces_after, interfaces_cases, InterfacesProved}
use Rattle.rules.proofs.Answers.{tables_first, listed_numbers, outputs_hold, asks-<, asks-≤}
use Rattle.rules.proofs.Interfaces.{length_interfaces}

pub interfaces_proved : (q : InterfacesInputs) → InterfacesProved q
unfolding interfaces_answer interfaces_refusals interfaces_after
interfaces_proved q = record {
  exactly = x;
  refusals = listed_numbers _ (q.table ∷ []) (interfaces_refusals n q.router (length q.out)) _ _;
  out_held = outputs_hold _ (interfaces_answer q) (cells n) _ q.out (λ e. (length_interfaces (says q.table) q.router, room e));
}
  where
    n : ℕ
    n = (says q.table).routers

    x : Exactly (interfaces_cases q) 0 (cells n) (interfaces_answer q)
    x =
        tables_first _ (q.table ∷ []) (interfaces_refusals n q.router (length q.out)) _ 0 (cells n)
        (refl, asks-< n q.router, (refl, asks-≤ (length q.out) (cells n), tt)) (omega arith, (omega arith, tt))

    room : Answered (interfaces_answer q) → cells n ≤ length q.out
    room e = let (a, (b, (r, z))) = x.asked.0 e in r
