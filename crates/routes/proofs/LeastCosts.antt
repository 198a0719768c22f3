-- Costs and next-hop sets of what the fill's function answers and writes: each place that is filled holds the cost or the set of `rules`.
-- Assumes nothing.
use mathlib.Core.Path.{◌≡◌, sym, ◌∙◌, ap}
use mathlib.Core.Logic.{◌↔◌}
use mathlib.Core.List.{List, map}
use Prim.Native.Nat.{ℕ, ◌+◌, ◌<◌}
use Rattle.std.specs.Prelude.{Ok, Err}
use lib.ListN.{get_or}
use lib.Seq.{get_or-take}
use Rattle.rules.specs.Words.{below}
use Rattle.rules.specs.Layout.{Table, Obeys}
use Rattle.rules.specs.Table.{says}
use Rattle.rules.specs.Links.{weight}
use Rattle.rules.specs.Costs.{cost}
use Rattle.rules.specs.NextHops.{has, next_hops}
use Rattle.rules.specs.Answers.{Answer, Answered, AllHold, Holds}
use Rattle.rules.specs.FillQuestion.{fill_answer, fill_cases, filled_costs, filled_sets}
use Rattle.rules.proofs.Basics.{value_at}
use Rattle.rules.proofs.Weights.{net}
use Rattle.rules.proofs.Acceptance.{obeys}
use Rattle.rules.proofs.LeastCost.{costs_are_least}
use Rattle.rules.proofs.Sets.{sets_have_neighbours}
use Rattle.rules.proofs.FillQuestion.{fill_proved}
use Rattle.refusals.specs.Refusals.{answer_told}
use Rattle.refusals.proofs.Told.{some_number}
use Rattle.routes.specs.LeastCosts.{LeadTo, SameFrom, LeastCostsOfTheCode}

-- what an output of n places holds at each of them
module _ (f : ℕ → ℕ) (n : ℕ) (lent after : List ℕ) (h : Holds n (map f (below n)) lent after) where
  at : (i : ℕ) → i < n → get_or after i 0 ≡ f i
  at i l = sym (get_or-take n after i 0 l) ∙ ap (λ written. get_or written i 0) h.front ∙ value_at f n i 0 l

  behind : (m : ℕ) → m ≡ n → SameFrom m lent after
  behind m e = rw e (h.same_length, h.later)

-- costs and sets that are those of `rules` at each router
module _ (t : Table) (o : Obeys t) (d : ℕ) (costs sets : List ℕ)
    (c : (i : ℕ) → i < t.routers → get_or costs i 0 ≡ cost t i d) (s : (i : ℕ) → i < t.routers → get_or sets i 0 ≡ next_hops t i d) where
  sums : (i k : ℕ) → i < t.routers → k < t.routers → (weight t i k + get_or costs k 0 ≡ get_or costs i 0) ↔ (weight t i k + cost t k d ≡ cost t i d)
  sums i k a b = rw (c i a, c k b) (λ e. e, λ e. e)

  lead_to : LeadTo t d costs sets
  lead_to = record {
    least_cost = λ i a. rw (c i a) (costs_are_least t o i d);
    neighbours = λ i k a. (
      λ e.
          let (l, m) = (sets_have_neighbours t o i d k).0 (sym (ap (λ set. has set k) (s i a)) ∙ e) in
          let b = ((net t o).inside i k l).1 in
          (b, l, (sums i k a b).1 m),
      λ (b, l, m). ap (λ set. has set k) (s i a) ∙ (sets_have_neighbours t o i d k).1 (l, (sums i k a b).0 m),
    );
  }

pub least_costs_of_the_code : LeastCostsOfTheCode
unfolding answer_told
least_costs_of_the_code q (Ok n) costs sets (p, c, s) = (
  h,
  e,
  lead_to t (obeys q.table h.0) q.destination costs sets (at _ _ q.costs costs filled) (at _ _ q.sets sets set),
  behind _ _ q.costs costs filled n e,
  behind _ _ q.sets sets set n e,
)
  where
    t : Table
    t = says q.table

    a : Answered (fill_answer q)
    a = sym (ap (λ (x : Answer ℕ). x.refusal.number) p)

    h : AllHold (fill_cases q)
    h = (fill_proved q).exactly.asked.0 a

    e : n ≡ t.routers
    e = ap (λ (x : Answer ℕ). x.values) p ∙ (fill_proved q).exactly.given a

    filled : Holds t.routers (filled_costs t q.destination) q.costs costs
    filled = rw c ((fill_proved q).costs_held.held a)

    set : Holds t.routers (filled_sets t q.destination) q.sets sets
    set = rw s ((fill_proved q).sets_held.held a)
least_costs_of_the_code q (Err r) costs sets (p, c, s) = (
  λ h. m ((fill_proved q).exactly.asked.1 h),
  c ∙ (fill_proved q).costs_held.stays m,
  s ∙ (fill_proved q).sets_held.stays m,
)
  where
    m : Answered (fill_answer q) → ⊥
    m z = some_number r.reason (ap (λ (x : Answer ℕ). x.refusal.number) p ∙ z)
