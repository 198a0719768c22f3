-- What is proved of the path question: exactly when it is answered, what the trace holds, and demand 3 for whatever the routers choose.
-- Assumes nothing.
use mathlib.Core.Path.{◌≡◌, refl}
use mathlib.Core.Logic.{◌↔◌}
use mathlib.Core.Bool.{false}
use mathlib.Core.List.{List, [], ◌∷◌}
use Prim.Native.Nat.{ℕ, ◌-◌, ◌≤◌}
use native.Mathlib.Omega.{arith}
use lib.Dec.{leb}
use lib.ListN.{length, take}
use lib.Seq.{take_all}
use borrow.Author.Tests.{leb-true, le-leb, not-false}
use Rattle.rules.specs.Words.{All}
use Rattle.rules.specs.Table.{says}
use Rattle.rules.specs.Paths.{Choice, listed}
use Rattle.rules.specs.Demand3.{Together, Demand3OfPath}
use Rattle.rules.specs.Answers.{Exactly, Answered}
use Rattle.rules.specs.PairQuestion.{AcceptedTogether}
use Rattle.rules.specs.PathQuestion.{PathInputs, no_ending, ending, few_views, bad_views, bad_numbers, path_refusals, packet_of, path_of, path_numbers, path_answer, trace_after, PathNumbers, GoodViews, path_cases, with_views, PathAsked, PathProved}
use Rattle.rules.proofs.Basics.{every_true, true_every}
use Rattle.rules.proofs.Acceptance.{obeys}
use Rattle.rules.proofs.Demand3.{demand3_of_path}
use Rattle.rules.proofs.Answers.{tables_first, listed_numbers, outputs_hold, asks-≤, asks_both, asks_routers}
use Rattle.rules.proofs.PairQuestion.{asks_pair}

-- what 9 asks for
pub asks_numbers : (n : ℕ) (q : PathInputs) → (bad_numbers n q.source q.destination ≡ false) ↔ PathNumbers n q
unfolding bad_numbers
asks_numbers n q =
    let r = asks_routers n n q.source q.destination in
    (λ e. record { source_below = (r.0 e).0; destination_below = (r.0 e).1 }, λ h. r.1 (h.source_below, h.destination_below))

-- what 11 asks for
enough_views : (n : ℕ) (views : List ℕ) → (few_views n views ≡ false) ↔ (n - 1 ≤ length views)
unfolding few_views
enough_views n views = asks-≤ (length views) (n - 1)

pub asks_views : (n : ℕ) (views : List ℕ) → (bad_views n views ≡ false) ↔ GoodViews n views
unfolding bad_views
asks_views n views = (λ e. let (a, b) = r.0 e in record { enough = a; good = b }, λ h. r.1 (h.enough, h.good))
  where
    r : (bad_views n views ≡ false) ↔ ((n - 1 ≤ length views) × All (λ v. v ≤ 1) (take (n - 1) views))
    r =
        asks_both (few_views n views) _ (enough_views n views) (
          λ e. every_true (λ v. leb v 1) (λ v. v ≤ 1) (λ v q. leb-true v 1 q) (take (n - 1) views) (not-false _ e),
          λ h. rw (true_every (λ v. leb v 1) (λ v. v ≤ 1) (λ v q. le-leb v 1 q) (take (n - 1) views) h),
        )

-- what two accepted byte strings say goes together
together : {old new : List ℕ} → AcceptedTogether old new → Together (says old) (says new)
together {old} {new} 𝓐 = record {
  old_obeys = obeys old 𝓐.old_accepted;
  new_obeys = obeys new 𝓐.new_accepted;
  same_routers = 𝓐.same_routers;
  one_link = 𝓐.one_link;
}

module _ (q : PathInputs) where
  abbrev n : ℕ
  n = (says q.new).routers

  exactly : Exactly (path_cases q) no_ending (ending (path_of q)) (path_answer q)
  unfolding path_answer path_numbers path_refusals
  exactly =
      tables_first _ (q.old ∷ q.new ∷ []) (path_numbers q) _ _ _ (
        refl,
        asks_pair (says q.old) (says q.new),
        (refl, asks_numbers n q, (refl, asks_views n q.views, (refl, asks-≤ (length q.trace) n, tt))),
      )
      (omega arith, (omega arith, (omega arith, (omega arith, tt))))

  asked : Answered (path_answer q) ↔ PathAsked q
  asked = (
    λ e.
        let (a, (b, ((s, l), (i, (v, (r, z)))))) = exactly.asked.0 e in
        record { together = record { old_accepted = a; new_accepted = b; same_routers = s; one_link = l }; numbers = i; views = v; room = r },
    λ h.
        let 𝓐 = h.together in
        exactly.asked.1 (𝓐.old_accepted, (𝓐.new_accepted, ((𝓐.same_routers, 𝓐.one_link), (h.numbers, (h.views, (h.room, tt)))))),
  )

  -- demand 3, whatever the choice
  demand3 : AcceptedTogether q.old q.new → PathNumbers n q → (choice : Choice) → Demand3OfPath (packet_of q) choice
  demand3 𝓐 i choice = demand3_of_path (packet_of q) choice (together 𝓐) i.source_below i.destination_below

pub path_proved : (q : PathInputs) → PathProved q
unfolding path_answer path_numbers path_refusals path_of trace_after listed
path_proved q = record {
  exactly = exactly q;
  asked = asked q;
  refusals = listed_numbers _ (q.old ∷ q.new ∷ []) (path_numbers q) _ _;
  followed = refl;
  views_say = λ i n. (λ e. rw e, λ e. rw e);
  trace_held = outputs_hold _ (path_answer q) _ (path_of q).trace q.trace (
      λ e.
      let h = (asked q).0 e in
      let free = (demand3 q h.together h.numbers (listed q.views)).general.loopless in
      (free.counted, omega (arith, free.few, h.room))
      );
  bytes_found = λ h. omega (arith, (demand3 q h.together h.numbers (listed q.views)).general.loopless.enough, h.views.enough);
  demand3 = demand3 q;
  every_choice = λ 𝓐 i room choice.
      let (views, long, good, same) = (demand3 q 𝓐 i choice).general.some_list in
      let h : PathAsked (with_views q views) =
      record {
        together = 𝓐;
        numbers = record { source_below = i.source_below; destination_below = i.destination_below };
        views = record { enough = omega (arith, long); good = rw (take_all (n q - 1) views (omega (arith, long))) good };
        room = room;
      }
      in
      (views, long, (asked (with_views q views)).1 h, same);
}
