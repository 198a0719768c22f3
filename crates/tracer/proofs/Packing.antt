-- What each case of an answer packs to, from the numbers that its function promises; and that its place fits.
-- Assumes nothing.
use mathlib.Core.Path.{◌≡◌, sym, ◌∙◌, ap}
use Prim.Native.Nat.{ℕ, ◌+◌, ◌^◌, ◌≤◌, ◌<◌}
use native.Mathlib.Nat.{zero-add, add-zero}
use native.Mathlib.Omega.{arith}
use Rattle.std.specs.Prelude.{List, Option, Some, None, Result, Ok, Err}
use Rattle.std.specs.Result.{MatchResult, ForOk, ForErr}
use Rattle.std.proofs.lemmas.Result.{IfOk-at_ok}
use Rattle.rules.specs.Names.{Part}
use Rattle.rules.specs.Layout.{longest_table}
use Rattle.rules.specs.Answers.{Answer, answered, refused_with}
use Rattle.rules.specs.NameQuestions.{PartFits}
use Rattle.refusals.specs.Refusals.{number_of, table_number, answer_told}
use Rattle.refusals.specs.declared.Refusal.{Refusal}
use Rattle.names.specs.declared.Part.{Part as PartHere}
use Rattle.names.specs.Namings.{naming_numbers, named_number, part_told, NamesPart}
use Rattle.tracer.specs.Packed.{refusal_bytes, packed, named_bytes, name_bytes, named_word, NamedFits}

-- an answer packs to its values, and a refusal to its number, table and place
pub packed_answered : {A : Type 0} (bytes : A → ℕ) (values : A) → packed bytes (answered values) ≡ bytes values
unfolding packed refusal_bytes
packed_answered bytes values = zero-add _

pub packed_refused : {A : Type 0} (bytes : A → ℕ) (zeros : A) (number table place : ℕ) → bytes zeros ≡ 0
    → packed bytes (refused_with zeros number table place) ≡ refusal_bytes number table place
unfolding packed
packed_refused bytes zeros number table place z = ap (λ n. refusal_bytes number table place + n) z ∙ add-zero _

-- a function answers r, whose numbers are the question's: the number of its case is the answer's
pub told_packed : {T A : Type 0} (zeros : A) (values : T → A) (r : Result T Refusal) {a : Answer A} → answer_told zeros values r ≡ a
    → (bytes : A → ℕ) → bytes zeros ≡ 0 → (w : ℕ)
    → MatchResult r (λ x. w ≡ bytes (values x)) (λ e. w ≡ refusal_bytes (number_of e.reason) (table_number e.table) e.place) → w ≡ packed bytes a
unfolding answer_told
told_packed zeros values (Ok x) p bytes z w is = is ∙ sym (packed_answered bytes _) ∙ ap (packed bytes) p
told_packed zeros values (Err e) p bytes z w is = is ∙ sym (packed_refused bytes _ _ _ _ z) ∙ ap (packed bytes) p

-- and the place of a refusal fits
pub told_near : {T A : Type 0} (zeros : A) (values : T → A) (r : Result T Refusal) {a : Answer A} → answer_told zeros values r ≡ a
    → a.refusal.place ≤ longest_table → ForErr r (λ e. e.place < 256 ^ 6)
unfolding answer_told
told_near {A = A} zeros values r p h e is =
    omega (arith, ap (λ (a : Answer A). a.refusal.place) (ap (answer_told zeros values) (sym is) ∙ p))

-- ---- names

-- a name packs to its part's bytes, none to 0
pub told_named : (part : Part) (r : Result (Option PartHere) Refusal) → NamesPart part r → (w : ℕ) (Q : Refusal → Type 0)
    → MatchResult r (λ n. w ≡ named_word n) Q → MatchResult r (λ n. w ≡ name_bytes part (named_number n)) Q
unfolding named_number named_word name_bytes
told_named part (Ok (Some p)) q w Q is = is ∙ ap (λ (part : Part). named_bytes part.table part.place part.size) q
told_named part (Ok None) q w Q is = is
told_named part (Err e) q w Q is = is

-- and it fits
pub named_fits : (part : Part) (r : Result (Option PartHere) Refusal) (a : Answer ℕ) → naming_numbers r ≡ a → NamesPart part r
    → (bytes : List ℕ) → (a.values ≡ 1 → PartFits bytes part) → ForOk r NamedFits
unfolding answer_told named_number
named_fits part r a p q bytes f (Some m) e =
    let same : part_told m ≡ part = IfOk-at_ok _ e q in
    let g = f (sym (ap (λ (a : Answer ℕ). a.values) (ap naming_numbers (sym e) ∙ p))) in
    let at : m.place ≡ part.place = ap (λ (part : Part). part.place) same in
    let long : m.size ≡ part.size = ap (λ (part : Part). part.size) same in
    omega (arith, g.not_long, g.within, g.not_far)
named_fits part r a p q bytes f None e = tt
