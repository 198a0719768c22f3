-- Demand 3 of what the path question's function answers and writes: what it tells is the path of `rules`.
-- Assumes nothing.
use mathlib.Core.Path.{◌≡◌, refl, sym, ◌∙◌, ap, subst}
use mathlib.Core.List.{List}
use Prim.Native.Nat.{ℕ, suc}
use lib.ListN.{take, drop}
use Rattle.std.specs.Prelude.{Ok, Err}
use Rattle.rules.specs.Paths.{Outcome, delivered, discarded, unrouted, lost, outcome_code, listed}
use Rattle.rules.specs.Answers.{Answer, Answered, Holds}
use Rattle.rules.specs.PathQuestion.{PathInputs, Ending, ending, path_of, path_answer, trace_after, PathAsked}
use Rattle.rules.proofs.PathQuestion.{path_proved}
use Rattle.refusals.specs.Refusals.{number_of, answer_told}
use Rattle.refusals.proofs.Told.{some_number}
use Rattle.paths.specs.declared.Ending.{Ending as EndingHere}
use Rattle.paths.specs.Following.{outcome_told}
use Rattle.paths.specs.PathAnswers.{ending_numbers}
use Rattle.paths.specs.Loopless.{path_told, Demand3Told, Demand3OfTheCode}
use Rattle.paths.proofs.Settled.{outcome_of, outcome_again}

-- the case that has an outcome's code tells that outcome
told_again : (o : Outcome) → outcome_told (outcome_of (outcome_code o)) ≡ o
unfolding outcome_told outcome_of
told_again delivered = refl
told_again discarded = refl
told_again unrouted = refl
told_again lost = refl

module _ (q : PathInputs) where
  -- all that `rules` says of the path
  of_path : PathAsked q → Demand3Told q (path_of q)
  unfolding path_of
  of_path h =
      let 𝓓 = (path_proved q).demand3 h.together h.numbers (listed q.views) in
      record { loopless = 𝓓.general.loopless; over_new_links = 𝓓.over_new_links; all_new = 𝓓.all_new }

  module _ (a : Answered (path_answer q)) (e : EndingHere) (p : ending_numbers e ≡ ending (path_of q)) (trace : List ℕ) (t : trace ≡ trace_after q) where
    held : Holds (suc (path_of q).hops) (path_of q).trace q.trace (trace_after q)
    held = (path_proved q).trace_held.held a

    same_hops : e.hops ≡ (path_of q).hops
    same_hops = ap (λ (x : Ending). x.hops) p

    -- an ending with the path's numbers, and the trace, tell the path
    told_path : path_told e trace ≡ path_of q
    unfolding path_told
    told_path = λ z. record { outcome = same_outcome z; router = (p z).router; hops = (p z).hops; trace = same_trace z }
      where
        same_outcome : outcome_told e.outcome ≡ (path_of q).outcome
        same_outcome =
            ap outcome_told (sym (outcome_again e.outcome) ∙ ap (λ (x : Ending). outcome_of x.outcome) p) ∙ told_again (path_of q).outcome

        same_trace : take (suc e.hops) trace ≡ (path_of q).trace
        same_trace = ap (λ n. take (suc n) trace) same_hops ∙ ap (take (suc (path_of q).hops)) t ∙ held.front

    -- and nothing is written behind it
    later : drop (suc e.hops) trace ≡ drop (suc e.hops) q.trace
    later =
        ap (λ n. drop (suc n) trace) same_hops
        ∙ ap (drop (suc (path_of q).hops)) t
        ∙ held.later
        ∙ sym (ap (λ n. drop (suc n) q.trace) same_hops)

pub demand3_of_the_code : Demand3OfTheCode
unfolding answer_told
demand3_of_the_code q (Ok e) trace (p, t) = (h, subst (Demand3Told q) (sym (told_path q a e numbers trace t)) (of_path q h), later q a e numbers trace t)
  where
    a : Answered (path_answer q)
    a = sym (ap (λ (x : Answer Ending). x.refusal.number) p)

    h : PathAsked q
    h = (path_proved q).asked.0 a

    numbers : ending_numbers e ≡ ending (path_of q)
    numbers = ap (λ x. x.values) p ∙ (path_proved q).exactly.given a
demand3_of_the_code q (Err r) trace (p, t) = (
  λ h. some_number r.reason (e ∙ (path_proved q).asked.1 h),
  t ∙ (path_proved q).trace_held.stays (λ z. some_number r.reason (e ∙ z)),
)
  where
    e : number_of r.reason ≡ (path_answer q).refusal.number
    e = ap (λ (x : Answer Ending). x.refusal.number) p
