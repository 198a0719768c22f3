-- What taking two tables together is answered, case by case, and the question about them.
-- Assumes nothing.
use mathlib.Core.Path.{◌≡◌, refl, sym, ◌∙◌, ap}
use mathlib.Core.Logic.{◌≢◌}
use mathlib.Core.List.{List}
use Prim.Native.Nat.{ℕ, ◌≤◌, ◌<◌}
use native.Mathlib.Omega.{arith}
use denote.Ref.{Bor}
use Rattle.std.specs.Prelude.{Ok, Err}
use Rattle.rules.specs.Table.{says}
use Rattle.rules.specs.Pairs.{differing}
use Rattle.rules.specs.Answers.{Refusal as Told, FirstDecides}
use Rattle.rules.specs.PairQuestion.{PairInputs, no_pairing, pairing, pair_answer, pair_cases, AcceptedTogether}
use Rattle.rules.proofs.PairQuestion.{pair_proved}
use Rattle.refusals.specs.declared.Reason.TheVariants.{TooDifferent}
use Rattle.refusals.specs.declared.Refusal.{Refusal}
use Rattle.refusals.specs.Refusals.{without_place, in_new, answer_told}
use Rattle.refusals.proofs.Told.{some_number}
use Rattle.tables.specs.Accepted.{Accepts}
use Rattle.tables.specs.declared.accepted.Table.{Table}
use Rattle.tables.proofs.OnTables.{is_accepted, own_routers}
use Rattle.pairs.specs.declared.both.Together.{Together}
use Rattle.pairs.specs.Together.{AcceptsTogether}
use Rattle.pairs.specs.Pairings.{Pairs}

module _ (old new : Bor (List ℕ)) where
  abbrev asked : PairInputs
  asked = record { old = old.now; new = new.now }

  -- the first case that does not hold decides
  decides : FirstDecides (pair_cases asked) no_pairing (pairing (says asked.old) (says asked.new)) (pair_answer asked)
  decides = (pair_proved asked).exactly.in_order

  -- ---- one of the tables is refused

  pub old_refused : (r : Refusal) → Accepts old (Err r) → AcceptsTogether old new (Err r)
  old_refused r p = p.1 ∙ sym (ap (λ a. a.refusal) (decides.0 p.0))

  pub new_refused : (o : Table) → o.bytes ≡ old → (r : Refusal) → Accepts new (Err r) → AcceptsTogether old new (Err (in_new r))
  new_refused o e r p =
      ap (λ (r : Told). record { number = r.number; table = 1; place = r.place }) p.1
      ∙ sym (ap (λ a. a.refusal) ((decides.1 (is_accepted old o e)).0 p.0))

  -- ---- the question about them

  pub pair_refused : (r : Refusal) → AcceptsTogether old new (Err r) → Pairs asked (Err r)
  unfolding answer_told
  pair_refused r p = (λ i. record { refusal = p i; values = sym zeros i }, tt)
    where
      zeros : (pair_answer asked).values ≡ no_pairing
      zeros = (pair_proved asked).refusals.else_zero (λ z. some_number r.reason (ap (λ (r : Told). r.number) p ∙ z))

-- two tables that go together, of whatever bytes
module _ (old new : Bor (List ℕ)) (t : Together) (p : t.old.bytes ≡ old) (q : t.new.bytes ≡ new) where
  pub are_together : AcceptedTogether old.now new.now
  are_together = rw (← p, ← q) t.fits

  pub pair_answered : Pairs (asked old new) (Ok (record { differ = t.differ; old = t.old.outline; new = t.new.outline }))
  unfolding answer_told
  pair_answered =
      rw (← p, ← q) (
        rw (t.counted, own_routers t.new.bytes t.new refl)
            (sym ((((decides t.old.bytes t.new.bytes).1 t.fits.old_accepted).1 t.fits.new_accepted).1 (t.fits.same_routers, t.fits.one_link))),
        (t.old.outlined, t.new.outlined),
      )

-- ---- two accepted tables

module _ (old new : Table) where
  -- they do not go together
  refused_8 : ¬ (((says old.bytes.now).routers ≡ (says new.bytes.now).routers) × (differing (says old.bytes.now) (says new.bytes.now) ≤ 1))
      → AcceptsTogether old.bytes new.bytes (Err (without_place TooDifferent))
  refused_8 h = sym (ap (λ a. a.refusal) ((((decides old.bytes new.bytes).1 old.accepted).1 new.accepted).0 h))

  pub other_routers : old.outline.routers ≢ new.outline.routers → AcceptsTogether old.bytes new.bytes (Err (without_place TooDifferent))
  other_routers h = refused_8 (λ k. h (own_routers old.bytes old refl ∙ k.0 ∙ sym (own_routers new.bytes new refl)))

  pub other_links : (differ : ℕ) → differ ≡ differing (says old.bytes.now) (says new.bytes.now) → 1 < differ
      → AcceptsTogether old.bytes new.bytes (Err (without_place TooDifferent))
  other_links differ d h = refused_8 (λ k. omega (arith, d, k.1))
