-- What the path question answers and what it leaves in the trace, case by case.
-- Assumes nothing.
use mathlib.Core.Path.{◌≡◌, refl, sym, ◌∙◌, ap}
use mathlib.Core.Logic.{◌≢◌}
use mathlib.Core.Bool.{Bool, true, false, ◌&&◌, ◌||◌, not}
use mathlib.Core.List.{List, [], ◌∷◌, ◌++◌}
use Prim.Native.Nat.{ℕ, ◌+◌, ◌-◌, ◌≤◌, ◌<◌}
use native.Mathlib.Omega.{arith}
use lib.Dec.{leb}
use lib.ListN.{length, take, drop}
use borrow.Author.Tests.{le-ltb}
use Rattle.std.specs.Prelude.{Ok, Err}
use Rattle.std.specs.List.{list_any}
use Rattle.rules.specs.Words.{◌<?◌, pick, ◌when◌, every}
use Rattle.rules.specs.Table.{says}
use Rattle.rules.specs.Paths.{Path, Outcome, delivered, discarded, unrouted, lost, outcome_code}
use Rattle.rules.specs.Answers.{Refusal as Told, answered, number_in}
use Rattle.rules.specs.Pairs.{too_different}
use Rattle.rules.specs.PairQuestion.{pair_answer}
use Rattle.rules.specs.PathQuestion.{PathInputs, no_ending, ending, few_views, bad_views, bad_numbers, packet_refusals, path_refusals, path_of, path_numbers, path_answer, trace_after}
use Rattle.rules.proofs.Basics.{pick_f}
use Rattle.rules.proofs.Answers.{asks_routers, front_refuses, number_refuses, number_answers, refused_stays, answered_writes}
use Rattle.rules.proofs.PairQuestion.{asks_pair}
use Rattle.rules.proofs.PathQuestion.{asks_numbers, asks_views}
use Rattle.refusals.specs.declared.Reason.{Reason}
use Rattle.refusals.specs.declared.Refusal.{Refusal}
use Rattle.refusals.specs.Refusals.{number_of, refusal_told, without_place, answer_told}
use Rattle.refusals.proofs.Told.{some_number}
use Rattle.tables.proofs.Asked.{own_routers, some_routers as routers_there, few_routers}
use Rattle.pairs.specs.declared.both.Together.{Together}
use Rattle.paths.specs.declared.Ending.{Ending as EndingHere}
use Rattle.paths.specs.declared.Outcome.{Outcome as OutcomeHere}
use Rattle.paths.specs.declared.Outcome.TheVariants.{Delivered, Discarded, NoRoute, Lost}
use Rattle.paths.specs.Following.{outcome_told, Ends, written}
use Rattle.paths.specs.PathAnswers.{code_of, ending_numbers, Tells, asked_of, Followable, AnswersPath}

-- ---- codes

-- each outcome has a case that tells it,
pub outcome_case : Outcome → OutcomeHere
outcome_case delivered = Delivered
outcome_case discarded = Discarded
outcome_case unrouted = NoRoute
outcome_case lost = Lost

case_told : (o : Outcome) → outcome_told (outcome_case o) ≡ o
unfolding outcome_told outcome_case
case_told delivered = refl
case_told discarded = refl
case_told unrouted = refl
case_told lost = refl

-- and that case has its code
pub case_code : (o : Outcome) → code_of (outcome_case o) ≡ outcome_code o
case_code o = ap outcome_code (case_told o)

-- ---- number 11

-- one byte fails the test, or every byte passes it
some_byte : (views : List ℕ) → list_any (λ v. not (leb v 1)) views ≡ not (every (λ v. leb v 1) views)
unfolding every
some_byte [] = refl
some_byte (v ∷ vs) = rw (some_byte vs) (go (leb v 1) (every (λ v. leb v 1) vs))
  where
    go : (b c : Bool) → (not b || not c) ≡ not (b && c)
    go true c = refl
    go false c = refl

pub first_views : (n : ℕ) (views : List ℕ) (bad : Bool) → bad ≡ list_any (λ v. not (leb v 1)) (take (n - 1) views)
    → n - 1 ≤ length views → bad ≡ bad_views n views
unfolding bad_views few_views
first_views n views bad e h = rw (le-ltb (length views) (n - 1) h, e, some_byte (take (n - 1) views))

-- ---- 9, then 11

module _ (n : ℕ) (bad : Bool) (views : List ℕ) where
  -- where neither refuses, no number is bad, and no view
  none_bad : 0 ≡ number_in (packet_refusals n bad views) → (bad ≡ false) × (bad_views n views ≡ false)
  none_bad = go bad (bad_views n views)
    where
      go : (s t : Bool) → 0 ≡ number_in (9 when s ∷ 11 when t ∷ []) → (s ≡ false) × (t ≡ false)
      go true t h = absurd (omega arith)
      go false true h = absurd (omega arith)
      go false false h = (refl, refl)

  -- where one of them does, so it does in front of 10
  in_front : (reason : Reason) → number_of reason ≡ number_in (packet_refusals n bad views)
      → (room : ℕ) → number_of reason ≡ number_in (path_refusals n bad views room)
  unfolding path_refusals
  in_front reason e room = e ∙ go bad (bad_views n views) (λ z. some_number reason (e ∙ z))
    where
      go : (s t : Bool) → number_in (9 when s ∷ 11 when t ∷ []) ≢ 0
          → number_in (9 when s ∷ 11 when t ∷ []) ≡ number_in (9 when s ∷ 11 when t ∷ 10 when (room <? n) ∷ [])
      go true t m = refl
      go false true m = refl
      go false false m = absurd (m refl)

-- ---- two tables that go together

module _ (t : Together) where
  same : t.new.outline.routers ≡ (says t.new.bytes.now).routers
  same = own_routers _ t.new.outline t.new.outlined

  pub some_routers : 0 < t.new.outline.routers
  some_routers = routers_there _ t.new.accepted t.new.outline t.new.outlined

  -- source and destination are one byte, where 9 does not refuse
  pub numbers_fit : (s d : ℕ) (views : List ℕ)
      → 0 ≡ number_in (packet_refusals t.new.outline.routers (bad_numbers t.new.outline.routers s d) views) → (s < 256) × (d < 256)
  unfolding bad_numbers
  numbers_fit s d views e =
      let n = t.new.outline.routers in
      let few = few_routers _ t.new.accepted t.new.outline t.new.outlined in
      let (l, m) = (asks_routers n n s d).0 (none_bad n (bad_numbers n s d) views e).0 in
      (omega arith, omega arith)

-- ---- the answer

-- the numbers of a path's ending
told : (e : EndingHere) (path : Path) → Ends e path → ending_numbers e ≡ ending path
told e path (o, r, h) = λ z. record { outcome = outcome_code (o z); router = r z; hops = h z }

module _ (q : PathInputs) where
  -- a refusal leaves what was lent
  refused : (r : Refusal) → path_answer q ≡ record { refusal = refusal_told r; values = no_ending } → AnswersPath q (Err r) q.trace
  unfolding answer_told trace_after
  refused r e = (sym e, refused_stays _ _ _ no_ending _ _ _ e (some_number r.reason))

  -- what refuses the two tables refuses the path
  pub pair_refused : (r : Refusal) → refusal_told r ≡ (pair_answer (record { old = q.old; new = q.new })).refusal → AnswersPath q (Err r) q.trace
  unfolding path_answer path_numbers pair_answer
  pair_refused r e =
      refused r
      (front_refuses _ _ no_ending _ _ _ (λ z. some_number r.reason (ap (λ (t : Told). t.number) e ∙ z))
      ∙ ap (λ t. record { refusal = t; values = no_ending }) (sym e))

-- the question's number refuses; where there is none the path is told
module _ (t : Together) (s d : ℕ) (views trace : List ℕ) where
  abbrev q : PathInputs
  q = asked_of t s d views trace

  abbrev n : ℕ
  n = t.new.outline.routers

  by_reason : (reason : Reason) → number_of reason ≡ number_in (path_numbers q) → AnswersPath q (Err (without_place reason)) trace
  unfolding path_answer
  by_reason reason e =
      refused q (without_place reason)
      (number_refuses no_ending (ending (path_of q)) (q.old ∷ q.new ∷ []) (path_numbers q) (t.old.accepted, (t.new.accepted, tt)) _ e (some_number reason))

  by_none : 0 ≡ number_in (path_numbers q) → path_answer q ≡ answered (ending (path_of q))
  unfolding path_answer
  by_none e = number_answers no_ending (ending (path_of q)) (q.old ∷ q.new ∷ []) (path_numbers q) (t.old.accepted, (t.new.accepted, tt)) 0 e refl

  -- 8 does not apply
  behind_8 : {m : ℕ} → pick (too_different (says q.old) (says q.new)) 8 m ≡ m
  behind_8 = pick_f _ _ _ ((asks_pair (says q.old) (says q.new)).1 (t.fits.same_routers, t.fits.one_link))

  -- ---- 9 and 11

  pub reason_refused : (reason : Reason) → number_of reason ≡ number_in (packet_refusals n (bad_numbers n s d) views)
      → AnswersPath q (Err (without_place reason)) trace
  unfolding path_numbers
  reason_refused reason e =
      by_reason reason (
      in_front n (bad_numbers n s d) views reason e (length trace)
      ∙ ap (λ n. number_in (path_refusals n (bad_numbers n s d) views (length trace))) (same t)
      ∙ sym behind_8
      )

  pub followable : 0 ≡ number_in (packet_refusals n (bad_numbers n s d) views) → Followable q
  followable e =
      let (no_number, no-view) = none_bad n (bad_numbers n s d) views e in
      record {
        numbers = (asks_numbers _ q).0 (ap (λ n. bad_numbers n s d) (sym (same t)) ∙ no_number);
        views = (asks_views _ views).0 (ap (λ n. bad_views n views) (sym (same t)) ∙ no-view);
      }

  -- ---- 10, where neither of them refuses

  module _ (𝓕 : Followable q) where
    room_decides : number_in (path_numbers q) ≡ pick (length trace <? n) 10 0
    unfolding path_numbers path_refusals
    room_decides =
        behind_8
        ∙ pick_f _ _ _ ((asks_numbers _ q).1 𝓕.numbers)
        ∙ pick_f _ _ _ ((asks_views _ views).1 𝓕.views)
        ∙ ap (λ n. pick (length trace <? n) 10 0) (sym (same t))

    -- a trace without room is refused, and stays
    pub room_refused : (reason : Reason) (written after : List ℕ) → number_of reason ≡ pick (length trace <? n) 10 0
        → after ≡ pick (length trace <? n) trace written → AnswersPath q (Err (without_place reason)) after
    room_refused reason written after a x = rw (x ∙ stays (length trace <? n) a) (by_reason reason (a ∙ sym room_decides))
      where
        stays : (b : Bool) → number_of reason ≡ pick b 10 0 → pick b trace written ≡ trace
        stays true a = refl
        stays false a = absurd (some_number reason a)

    -- what was followed is the path; where the trace has room for N it is told and written
    module _ (followed : Path) (f : followed ≡ path_of q) (e : EndingHere) (p : Ends e followed) (visited : List ℕ)
        (w : take (e.hops + 1) visited ++ drop (e.hops + 1) trace ≡ written followed trace) where
      pub path_told : (after : List ℕ) → Tells e n visited trace (Ok tt) after → AnswersPath q (Ok e) after
      unfolding answer_told trace_after
      path_told after (a, x) = (
        ap answered (told e followed p ∙ ap ending f) ∙ sym answers,
        x ∙ tells (length trace <? n) _ _ a ∙ w ∙ ap (λ x. written x trace) f ∙ answered_writes _ _ _ _ (length (path_of q).trace) answers refl,
      )
        where
          answers : path_answer q ≡ answered (ending (path_of q))
          answers = by_none (a ∙ sym room_decides)

          tells : (b : Bool) (x y : List ℕ) → ◌≡◌ {A = ℕ} 0 (pick b 10 0) → pick b x y ≡ y
          tells true x y a = absurd (omega arith)
          tells false x y a = refl
