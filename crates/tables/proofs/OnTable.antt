-- A question about one table, from what accepting it tells: the table is refused, or a number that was found with its N decides.
-- Assumes nothing.
use mathlib.Core.Path.{◌≡◌, refl, sym, ◌∙◌, ap}
use mathlib.Core.List.{List, [], ◌∷◌, ◌++◌}
use Prim.Native.Nat.{ℕ}
use lib.ListN.{length, drop}
use Rattle.std.specs.Prelude.{Ok, Err}
use Rattle.rules.specs.Words.{Line}
use Rattle.rules.specs.Table.{says}
use Rattle.rules.specs.Demand1.{IsAccepted}
use Rattle.rules.specs.Answers.{Refusal as Told, Answer, answered, answer, on_tables, number_in, of_table, afterwards}
use Rattle.rules.proofs.Answers.{table_bad, number_refuses, number_answers, refused_stays, answered_writes}
use Rattle.refusals.specs.declared.Reason.{Reason}
use Rattle.refusals.specs.declared.Refusal.{Refusal}
use Rattle.refusals.specs.Refusals.{number_of, refusal_told, without_place, answer_told}
pub use Rattle.refusals.proofs.Exits.{exit_is}
use Rattle.refusals.proofs.Told.{some_number}
use Rattle.tables.specs.declared.accepted.Table.{Table}
use Rattle.tables.proofs.Asked.{own_routers}

-- what an answer is told by
module _ {T A : Type 0} (zeros values : A) (told : T → A) where
  -- the table is refused, before any other refusal
  pub table_refuses : (table : List ℕ) (refusals : List (Line ℕ)) (r : Refusal) → (¬ IsAccepted table) × (refusal_told r ≡ of_table 0 table)
      → answer_told zeros told (Err r) ≡ answer (on_tables (table ∷ []) refusals) zeros values
  unfolding answer_told
  table_refuses table refusals r p =
      ap (λ (r : Told). record { refusal = r; values = zeros }) p.1 ∙ sym (table_bad zeros values 0 table _ _ _ refl refl p.0)

  -- it is accepted: of a table of so many routers a number decides
  module _ (t : Table) (refusals : ℕ → List (Line ℕ)) where
    abbrev pub answer_to : Answer A
    answer_to = answer (on_tables (t.bytes.now ∷ []) (refusals (says t.bytes.now).routers)) zeros values

    number : {n : ℕ} → n ≡ number_in (refusals t.outline.routers) → n ≡ number_in (refusals (says t.bytes.now).routers)
    number e = e ∙ ap (λ n. number_in (refusals n)) (own_routers _ t.outline t.outlined)

    pub reason_refuses : (reason : Reason) → number_of reason ≡ number_in (refusals t.outline.routers)
        → answer_told zeros told (Err (without_place reason)) ≡ answer_to
    unfolding answer_told
    reason_refuses reason e =
        sym (number_refuses zeros values (t.bytes.now ∷ []) (refusals (says t.bytes.now).routers) (t.accepted, tt) (number_of reason) (number e)
        (some_number reason))

    pub none_refuses : 0 ≡ number_in (refusals t.outline.routers) → (x : T) → told x ≡ values → answer_told zeros told (Ok x) ≡ answer_to
    unfolding answer_told
    none_refuses e x same =
        ap answered same
        ∙ sym (number_answers zeros values (t.bytes.now ∷ []) (refusals (says t.bytes.now).routers) (t.accepted, tt) 0 (number e) refl)

-- ---- an output beside an answer: a refusal leaves it as it was lent, else it is written, with what was lent behind it

module _ {T A : Type 0} (zeros : A) (told : T → A) (a : Answer A) (written lent : List ℕ) where
  pub output_left : (r : Refusal) → answer_told zeros told (Err r) ≡ a → lent ≡ afterwards a written lent
  unfolding answer_told
  output_left r e = refused_stays _ _ _ zeros _ _ _ (sym e) (some_number r.reason)

  pub output_written : (x : T) → answer_told zeros told (Ok x) ≡ a → (n : ℕ) → length written ≡ n
      → (after : List ℕ) → after ≡ written ++ drop n lent → after ≡ afterwards a written lent
  unfolding answer_told
  output_written x e n l after h = h ∙ answered_writes _ _ _ _ n (sym e) l
