-- Each promise of this crate allows one answer: each case is had again from its numbers.
-- Assumes nothing.
use mathlib.Core.Path.{◌≡◌, refl, sym, ◌∙◌, ap, ap₂}
use mathlib.Core.List.{List}
use Prim.Native.Nat.{ℕ}
use denote.Ref.{Bor}
use Rattle.std.specs.Prelude.{Result, Ok, Err}
use Rattle.rules.specs.ReadQuestion.{no_reading}
use Rattle.rules.specs.Promises.{Settles}
use Rattle.refusals.specs.declared.Refusal.{Refusal}
use Rattle.refusals.proofs.Told.{told_apart}
use Rattle.refusals.proofs.Settled.{answer_settled, numbers_settled}
use Rattle.tables.specs.Readings.{nothing_judged, JudgedTo, outline_of, Reads}
use Rattle.tables.specs.Accepted.{Accepts}
use Rattle.tables.specs.declared.Outline.{Outline}
use Rattle.tables.specs.declared.accepted.Table.{Table}
use Rattle.tables.proofs.OnTables.{is_accepted, own_outline}

pub judge_settled : (bytes : List ℕ) → Settles (JudgedTo bytes)
judge_settled bytes = numbers_settled nothing_judged _ (λ j. record { routers = j.routers; links = j.links; end = j.end }) (λ x. refl) _

-- an accepted table has its own outline
pub read_settled : (bytes : List ℕ) → Settles (Reads bytes)
read_settled bytes x y p q =
    answer_settled no_reading _ (λ t. t ≡ outline_of bytes) (λ n. outline_of bytes) (λ t own. sym own) _ x y (p.0, p.1) (q.0, q.1)

-- of an accepted table its bytes and its outline are seen; that they fit each other it has besides
abbrev pub seen : Result Table Refusal → Result (Bor (List ℕ) × Outline) Refusal
seen (Ok t) = Ok (t.bytes, t.outline)
seen (Err r) = Err r

module _ (bytes : Bor (List ℕ)) where
  seen_same : (r s : Result Table Refusal) → Accepts bytes r → Accepts bytes s → seen r ≡ seen s
  seen_same (Ok t) (Ok u) p q =
      ap₂ (λ (b : Bor (List ℕ)) (o : Outline). Ok (b, o)) (p ∙ sym q) (own_outline bytes t p ∙ sym (own_outline bytes u q))
  seen_same (Ok t) (Err s) p q = absurd (q.0 (is_accepted bytes t p))
  seen_same (Err r) (Ok u) p q = absurd (p.0 (is_accepted bytes u q))
  seen_same (Err r) (Err s) p q = ap Err (told_apart r s (p.1 ∙ sym q.1))

  pub accept_settled : Settles (λ (said : Result (Bor (List ℕ) × Outline) Refusal). (r : Result Table Refusal) × Accepts bytes r × (said ≡ seen r))
  accept_settled x y (r, p, e) (s, q, f) = e ∙ seen_same r s p q ∙ sym f
