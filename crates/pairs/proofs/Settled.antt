-- The promises of `together` and `pair` allow one answer each: a pairing is had again from its numbers and from the tables' outlines.
-- Assumes nothing.
use mathlib.Core.Path.{◌≡◌, sym, ◌∙◌, ap}
use mathlib.Core.List.{List}
use Prim.Native.Nat.{ℕ}
use denote.Ref.{Bor}
use Rattle.std.specs.Prelude.{Result, Ok, Err}
use Rattle.rules.specs.Answers.{Refusal as Told}
use Rattle.rules.specs.PairQuestion.{PairInputs, Pairing, no_pairing, pair_answer}
use Rattle.rules.specs.Promises.{Settles}
use Rattle.rules.proofs.PairQuestion.{pair_proved}
use Rattle.refusals.specs.declared.Refusal.{Refusal}
use Rattle.refusals.proofs.Told.{some_number, told_apart}
use Rattle.refusals.proofs.Settled.{answer_settled}
use Rattle.tables.specs.Readings.{outline_of}
use Rattle.pairs.specs.declared.both.Together.{Together}
use Rattle.pairs.specs.declared.Pairing.{Pairing as PairingHere}
use Rattle.pairs.specs.Together.{AcceptsTogether}
use Rattle.pairs.specs.Pairings.{Pairs}
use Rattle.pairs.proofs.Answers.{are_together, pair_answered}

abbrev pairing_of : Together → PairingHere
pairing_of t = record { differ = t.differ; old = t.old.outline; new = t.new.outline }

-- of two tables that go together their bytes and what these hold are seen, and how many links differ; that they fit each other they have besides
abbrev pub seen : Result Together Refusal → Result (Bor (List ℕ) × Bor (List ℕ) × PairingHere) Refusal
seen (Ok t) = Ok (t.old.bytes, t.new.bytes, pairing_of t)
seen (Err r) = Err r

module _ (q : PairInputs) where
  abbrev Own : PairingHere → Type 0
  Own p = (p.old ≡ outline_of q.old) × (p.new ≡ outline_of q.new)

  pairing_from : Pairing → PairingHere
  pairing_from n = record { differ = n.differ; old = outline_of q.old; new = outline_of q.new }

  pub pair_settled : Settles (Pairs q)
  unfolding pairing_from
  pair_settled = answer_settled no_pairing _ Own pairing_from (λ p own. rw (← own.0, ← own.1)) (pair_answer q)

module _ (old new : Bor (List ℕ)) where
  -- a refusal has a number, and two tables that go together are answered
  not_both : (t : Together) (r : Refusal) → AcceptsTogether old new (Ok t) → AcceptsTogether old new (Err r) → ⊥
  not_both t r (p, q) e = some_number r.reason (ap (λ (r : Told). r.number) e ∙ (pair_proved _).asked.1 (are_together old new t p q))

  seen_same : (r s : Result Together Refusal) → AcceptsTogether old new r → AcceptsTogether old new s → seen r ≡ seen s
  seen_same (Ok t) (Ok u) (p, q) (p', q') = λ i. Ok ((p ∙ sym p') i, (q ∙ sym q') i, pairings i)
    where
      pairings : pairing_of t ≡ pairing_of u
      pairings = let e = pair_settled _ _ _ (pair_answered old new t p q) (pair_answered old new u p' q') in cc
  seen_same (Ok t) (Err s) p q = absurd (not_both t s p q)
  seen_same (Err r) (Ok u) p q = absurd (not_both u r q p)
  seen_same (Err r) (Err s) p q = ap Err (told_apart r s (p ∙ sym q))

  pub together_settled : Settles (λ (said : Result (Bor (List ℕ) × Bor (List ℕ) × PairingHere) Refusal).
      (r : Result Together Refusal) × AcceptsTogether old new r × (said ≡ seen r))
  together_settled x y (r, p, e) (s, q, f) = e ∙ seen_same r s p q ∙ sym f
