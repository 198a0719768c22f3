-- A question about two tables, from what accepting each tells: the old table is refused, or the new one behind it, or a number that was found decides.
-- Assumes nothing.
use mathlib.Core.Path.{◌≡◌, refl, sym, ◌∙◌, ap, subst}
use mathlib.Core.List.{List, [], ◌∷◌}
use Prim.Native.Nat.{ℕ}
use denote.Ref.{Bor}
use Rattle.std.specs.Prelude.{Result, Ok, Err, MatchResult}
use Rattle.rules.specs.Words.{Line}
use Rattle.rules.specs.Table.{says}
use Rattle.rules.specs.Demand1.{IsAccepted}
use Rattle.rules.specs.Answers.{Refusal, Answer, answer, answered, on_tables, number_in, of_table}
use Rattle.rules.proofs.Answers.{table_bad, table_good, number_refuses, number_answers}
use Rattle.refusals.specs.declared.Reason.{Reason}
use Rattle.refusals.specs.declared.Refusal.{Refusal as RefusalHere}
use Rattle.refusals.specs.Refusals.{number_of, refusal_told, without_place, in_new, answer_told}
use Rattle.refusals.proofs.Told.{some_number}
use Rattle.tables.specs.Readings.{outline_of}
use Rattle.tables.specs.Accepted.{Accepts}
use Rattle.tables.specs.declared.Outline.{Outline}
use Rattle.tables.specs.declared.accepted.Table.{Table}

-- what a table says of the bytes that it was accepted from
module _ (bytes : Bor (List ℕ)) (t : Table) (same : t.bytes ≡ bytes) where
  pub is_accepted : IsAccepted bytes.now
  is_accepted = subst (λ (b : Bor (List ℕ)). IsAccepted b.now) same t.accepted

  pub own_outline : t.outline ≡ outline_of bytes.now
  own_outline = subst (λ (b : Bor (List ℕ)). t.outline ≡ outline_of b.now) same t.outlined

  pub own_routers : t.outline.routers ≡ (says bytes.now).routers
  own_routers = ap (λ (o : Outline). o.routers) own_outline

-- what accepting the new table tells where its refusal is turned to the new table's
module _ (bytes : Bor (List ℕ)) where
  pub new_accepted : (r : Result Table RefusalHere) (t : Table) → Accepts bytes r → MatchResult r (λ x. ◌≡◌ {A = Result Table RefusalHere} (Ok t) (Ok x)) (λ d. ⊥) → t.bytes ≡ bytes
  new_accepted (Ok x) t p m = let same : t ≡ x = cc in ap (λ (t : Table). t.bytes) same ∙ p
  new_accepted (Err d) t p m = absurd m

  pub new_refused : (r : Result Table RefusalHere) (e : RefusalHere) → Accepts bytes r
      → MatchResult r (λ x. ◌≡◌ {A = Result Table RefusalHere} (Err e) (Ok x)) (λ d. e ≡ in_new d) → (d : RefusalHere) × Accepts bytes (Err d) × (e ≡ in_new d)
  new_refused (Ok x) e p m = cc
  new_refused (Err d) e p m = (d, p, m)

-- the refusals behind two tables; what an answer is told by
module _ {T A : Type 0} (zeros values : A) (told : T → A) (old new : List ℕ) (refusals : List (Line ℕ)) where
  abbrev pub answer_to_both : Answer A
  answer_to_both = answer (on_tables (old ∷ new ∷ []) refusals) zeros values

  -- the old table is refused
  pub old_refuses : (r : RefusalHere) → (¬ IsAccepted old) × (refusal_told r ≡ of_table 0 old) → answer_told zeros told (Err r) ≡ answer_to_both
  unfolding answer_told
  old_refuses r p =
      ap (λ (r : Refusal). record { refusal = r; values = zeros }) p.1 ∙ sym (table_bad zeros values 0 old _ _ _ refl refl p.0)

  module _ (a : IsAccepted old) where
    -- the new one is
    pub new_refuses : (r : RefusalHere) → (¬ IsAccepted new) × (refusal_told r ≡ of_table 0 new)
        → answer_told zeros told (Err (in_new r)) ≡ answer_to_both
    unfolding answer_told
    new_refuses r p =
        ap (λ (r : Refusal). record { refusal = record { number = r.number; table = 1; place = r.place }; values = zeros }) p.1
        ∙ sym (table_good zeros values 0 old _ a ∙ table_bad zeros values 1 new _ _ _ refl refl p.0)

    -- both are accepted: a number decides
    module _ (b : IsAccepted new) where
      pub reason_refuses : (reason : Reason) → number_of reason ≡ number_in refusals → answer_told zeros told (Err (without_place reason)) ≡ answer_to_both
      unfolding answer_told
      reason_refuses reason e = sym (number_refuses zeros values (old ∷ new ∷ []) refusals (a, (b, tt)) (number_of reason) e (some_number reason))

      pub both_answer : number_in refusals ≡ 0 → (x : T) → told x ≡ values → answer_told zeros told (Ok x) ≡ answer_to_both
      unfolding answer_told
      both_answer e x same = ap answered same ∙ sym (number_answers zeros values (old ∷ new ∷ []) refusals (a, (b, tt)) 0 (sym e) refl)
