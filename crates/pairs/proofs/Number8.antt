-- Number 8 of what the function over two tables answers: the first of the question's cases that does not hold refuses, and the count of links that
-- differ tells between how many routers weights do.
-- Assumes nothing.
use mathlib.Core.Path.{◌≡◌, sym, ◌∙◌, ap, subst}
use mathlib.Core.Logic.{◌↔◌}
use Prim.Native.Nat.{◌≤◌}
use native.Mathlib.Decide.{ℕ_discrete}
use native.Mathlib.Omega.{arith}
use Rattle.std.specs.Prelude.{Ok, Err}
use Rattle.rules.specs.Table.{read, number_of, says}
use Rattle.rules.specs.Pairs.{differing}
use Rattle.rules.specs.Demand1.{IsAccepted}
use Rattle.rules.specs.Answers.{Refusal, Answer, Answered, Refused, Exactly}
use Rattle.rules.specs.PairQuestion.{PairInputs, Pairing, no_pairing, pairing, pair_answer, pair_cases, AcceptedTogether}
use Rattle.rules.proofs.Acceptance.{obeys}
use Rattle.rules.proofs.OneChange.{differs_exactly, none_differs}
use Rattle.rules.proofs.PairQuestion.{pair_proved}
use Rattle.refusals.specs.Refusals.{answer_told}
use Rattle.refusals.proofs.Told.{some_number}
use Rattle.pairs.specs.Number8.{GoTogether, FirstRefuses, by_old, by_new, by_8, Number8OfTheCode}

module _ (q : PairInputs) where
  -- what 8 asks for, of two accepted tables
  goes_together : IsAccepted q.old → IsAccepted q.new
      → (((says q.old).routers ≡ (says q.new).routers) × (differing (says q.old) (says q.new) ≤ 1)) ↔ GoTogether (says q.old) (says q.new)
  goes_together a b =
      let x = differs_exactly (says q.old) (says q.new) (obeys q.old a) (obeys q.new b) in
      (λ (s, d). record { same_routers = s; one_change = x.0 d }, λ g. (g.same_routers, x.1 g.one_change))

  -- the first case that does not hold refuses
  refuses : Refused (pair_answer q) → FirstRefuses q (pair_answer q).refusal
  refuses n = go (ℕ_discrete (number_of (read q.old)) 0) (ℕ_discrete (number_of (read q.new)) 0)
    where
      x : Exactly (pair_cases q) no_pairing (pairing (says q.old) (says q.new)) (pair_answer q)
      x = (pair_proved q).exactly

      by : (r : Refusal) → pair_answer q ≡ record { refusal = r; values = no_pairing } → FirstRefuses q r → FirstRefuses q (pair_answer q).refusal
      by r e = subst (FirstRefuses q) (sym (ap (λ (a : Answer Pairing). a.refusal) e))

      go : Dec (IsAccepted q.old) → Dec (IsAccepted q.new) → FirstRefuses q (pair_answer q).refusal
      go (no a) d = by _ (x.in_order.0 a) (by_old a)
      go (yes a) (no b) = by _ ((x.in_order.1 a).0 b) (by_new a b)
      go (yes a) (yes b) = by _ (((x.in_order.1 a).1 b).0 apart) (by_8 a b (λ g. apart ((goes_together a b).1 g)))
        where
          apart : ¬ (((says q.old).routers ≡ (says q.new).routers) × (differing (says q.old) (says q.new) ≤ 1))
          apart h = n (x.asked.1 (a, (b, (h, tt))))

pub number8_of_the_code : Number8OfTheCode
unfolding answer_told
number8_of_the_code q (Ok r) (p, own) = (
  t.old_accepted,
  t.new_accepted,
  (goes_together q t.old_accepted t.new_accepted).0 (t.same_routers, t.one_link),
  record { at_most_one = omega (arith, d, t.one_link); none = rw d (none_differs (says q.old) (says q.new) (obeys q.old t.old_accepted) (obeys q.new t.new_accepted)) },
)
  where
    a : Answered (pair_answer q)
    a = sym (ap (λ (x : Answer Pairing). x.refusal.number) p)

    t : AcceptedTogether q.old q.new
    t = (pair_proved q).asked.0 a

    d : r.differ ≡ differing (says q.old) (says q.new)
    d = ap (λ (x : Answer Pairing). x.values.differ) p ∙ ap (λ (x : Pairing). x.differ) ((pair_proved q).exactly.given a)
number8_of_the_code q (Err r) (p, own) =
    subst (FirstRefuses q) (sym (ap (λ (x : Answer Pairing). x.refusal) p)) (refuses q (λ z. some_number r.reason (ap (λ (x : Answer Pairing). x.refusal.number) p ∙ z)))
