-- What the reading question answers, from what judging tells; and what its answer tells of the bytes.
-- Assumes nothing.
use mathlib.Core.Path.{◌≡◌, refl, sym, ◌∙◌, ap, ap₂, subst}
use mathlib.Core.List.{List, [], ◌∷◌}
use Prim.Native.Nat.{ℕ, ◌+◌, ◌-◌, ◌*◌, ◌≤◌, ◌<◌}
use native.Mathlib.Omega.{arith}
use lib.ListN.{length}
use borrow.Author.Tests.{lt-ltb, le-ltb}
use Rattle.std.specs.Prelude.{Ok, Err}
use Rattle.rules.specs.Layout.{Table, Bytes}
use Rattle.rules.specs.Table.{Record, Judged, accepted, refused, judge, nothing_behind, read, number_of as number_in, place_of, records_of, table_of, says}
use Rattle.rules.specs.Demand1.{IsAccepted}
use Rattle.rules.specs.Answers.{answered, refused_with, of_table}
use Rattle.rules.specs.ReadQuestion.{Reading, no_reading, reading, read_answer}
use Rattle.rules.proofs.Acceptance.{obeys}
use Rattle.rules.proofs.Basics.{pick_t, pick_f}
use Rattle.rules.proofs.Judging.{judge_judges}
use Rattle.rules.proofs.Answers.{table_bad, number_answers}
use Rattle.rules.proofs.Refusals.{judged_by}
use Rattle.rules.proofs.ReadQuestion.{read_proved}
use Rattle.refusals.specs.declared.Refusal.{Refusal}
use Rattle.refusals.specs.declared.Which.{Which}
use Rattle.refusals.specs.declared.Which.TheVariants.{Old, New}
use Rattle.refusals.specs.declared.Reason.TheVariants.{BytesBehind}
use Rattle.refusals.specs.Refusals.{number_of, table_number, refusal_told, refused_at, answer_told}
use Rattle.refusals.proofs.Told.{some_number}
use Rattle.tables.specs.Readings.{judged_numbers, judging_answer, JudgedTo, links_place, links_start, reading_numbers, outline_of, Reads}
use Rattle.tables.specs.declared.Judged.{Judged as JudgedHere}
use Rattle.tables.specs.declared.Outline.{Outline}
use Rattle.tables.proofs.Places.{judged_ends}

-- ---- the reading question, from what judging tells

module _ (bytes : List ℕ) where
  abbrev values : Reading
  values = reading (says bytes)

  -- what is read decides
  refused_reads : Bytes bytes → (r : Refusal) → r.table ≡ Old → read bytes ≡ refused (number_of r.reason) r.place → Reads bytes (Err r)
  unfolding answer_told read_answer
  refused_reads b r o e = (
    ap (λ (which : Which). refused_with no_reading (number_of r.reason) (table_number which) r.place) o
        ∙ sym (table_bad no_reading values 0 bytes [] _ _ (ap number_in e) (ap place_of e) (some_number r.reason)),
    tt,
    b,
  )

  accepted_reads : Bytes bytes → (rs : List Record) (end : ℕ) → read bytes ≡ accepted rs end
      → Reads bytes (Ok (record { routers = (table_of rs).routers; links = length (table_of rs).links; start = links_place rs }))
  unfolding answer_told read_answer says links_start
  accepted_reads b rs end e =
      let t = ap (λ j. table_of (records_of j)) e in (
        sym (number_answers no_reading values (bytes ∷ []) [] (ap number_in e, tt) 0 refl refl
            ∙ ap (λ (t : Table). answered (reading t)) t),
        sym (ap₂ (λ (t : Table) (start : ℕ). record { routers = t.routers; links = length t.links; start = start }) t (ap (λ j. links_place (records_of j)) e)),
        b,
      )

  -- judging refuses, and so does reading
  pub refused_told : Bytes bytes → (r : Refusal) → JudgedTo bytes (Err r) → Reads bytes (Err r)
  unfolding answer_told judging_answer read
  refused_told b r = go (judge bytes) refl
    where
      go : (j : Judged) → judge bytes ≡ j → judged_numbers (Err r) ≡ judging_answer j → Reads bytes (Err r)
      go (refused n p) e q = refused_reads b r (which r.table (ap (λ a. a.refusal.table) q)) (ap (nothing_behind (length bytes)) e ∙ same)
        where
          which : (w : Which) → table_number w ≡ 0 → w ≡ Old
          which Old e = refl
          which New e = absurd (omega arith)

          same : refused n p ≡ refused (number_of r.reason) r.place
          same = sym (ap (λ a. refused a.refusal.number a.refusal.place) q)
      go (accepted rs end) e q = absurd (some_number r.reason (ap (λ a. a.refusal.number) q))

  -- what an accepted table's end tells
  pub record Ended (j : JudgedHere) : Type 0 where
    pub room : j.links * 7 + 3 ≤ j.end
    pub behind : j.end < length bytes → Reads bytes (Err (refused_at BytesBehind j.end))
    pub whole : length bytes ≤ j.end → Reads bytes (Ok (record { routers = j.routers; links = j.links; start = j.end - 3 - j.links * 7 }))

  pub accepted_told : Bytes bytes → (j : JudgedHere) → JudgedTo bytes (Ok j) → Ended j
  unfolding answer_told judging_answer read
  accepted_told b t = go (judge bytes) refl
    where
      go : (j : Judged) → judge bytes ≡ j → judged_numbers (Ok t) ≡ judging_answer j → Ended t
      go (refused n p) e q = let z = ap (λ a. a.refusal.number) q in absurd (omega (arith, rw e at (judged_by (judge_judges bytes))))
      go (accepted rs at) e q = record {
        room = omega (arith, ends, c, l);
        behind = λ h.
            refused_reads b (refused_at BytesBehind t.end) refl
            (ap (nothing_behind (length bytes)) e ∙ pick_t _ _ _ (lt-ltb at (length bytes) (omega (arith, c))) ∙ ap (λ n. refused 7 n) (sym c));
        whole = λ h.
            subst (λ (t : Outline). Reads bytes (Ok t))
            (same (sym a) (sym l) (omega (arith, ends, c, l)))
            (accepted_reads b rs at (ap (nothing_behind (length bytes)) e ∙ pick_f _ _ _ (le-ltb at (length bytes) (omega (arith, c)))));
      }
        where
          a : t.routers ≡ (table_of rs).routers
          a = ap (λ a. a.values.routers) q

          l : t.links ≡ length (table_of rs).links
          l = ap (λ a. a.values.links) q

          c : t.end ≡ at
          c = ap (λ a. a.values.end) q

          ends : links_place rs + 7 * length (table_of rs).links + 3 ≡ at
          ends = judged_ends bytes rs at e

          same : {a b c x y z : ℕ} → a ≡ x → b ≡ y → c ≡ z
              → ◌≡◌ {A = Outline} (record { routers = a; links = b; start = c }) (record { routers = x; links = y; start = z })
          same p q r = rw (p, q, r)

  -- ---- what a reading tells of the bytes

  -- the answer by cases
  pub reading_accepted : (t : Outline) → Reads bytes (Ok t) → IsAccepted bytes × (t ≡ outline_of bytes)
  unfolding answer_told
  reading_accepted t p = (((read_proved bytes).exactly.asked.0 (sym (ap (λ a. a.refusal.number) p.0))).0, p.1)

  pub reading_refused : (r : Refusal) → Reads bytes (Err r) → (¬ IsAccepted bytes) × (refusal_told r ≡ of_table 0 bytes)
  unfolding answer_told
  reading_refused r p = (bad, ap (λ a. a.refusal) own)
    where
      bad : ¬ IsAccepted bytes
      bad a = some_number r.reason (ap (λ a. a.refusal.number) p.0 ∙ (read_proved bytes).exactly.asked.1 (a, tt))

      -- the question's refusal is the table's
      own : reading_numbers (Err r) ≡ refused_with no_reading (number_in (read bytes)) 0 (place_of (read bytes))
      own = p.0 ∙ (read_proved bytes).exactly.in_order.0 bad

  -- the outline's routers are the table's, from 1 to 64
  pub own_routers : (t : Outline) → t ≡ outline_of bytes → t.routers ≡ (says bytes).routers
  own_routers t q = ap (λ (o : Outline). o.routers) q

  pub few_routers : IsAccepted bytes → (t : Outline) → t ≡ outline_of bytes → t.routers ≤ 64
  few_routers a t q = omega (arith, own_routers t q, (obeys bytes a).few_routers)

  pub some_routers : IsAccepted bytes → (t : Outline) → t ≡ outline_of bytes → 1 ≤ t.routers
  some_routers a t q = omega (arith, own_routers t q, (obeys bytes a).some_routers)
