-- Judging, one record at a time: what a turn of judging gives, for a record that stands at a place of a table.
-- Assumes nothing.
use mathlib.Core.Path.{◌≡◌, refl, sym, ◌∙◌, ap, ap₂}
use mathlib.Core.Logic.{◌≢◌}
use mathlib.Core.Bool.{Bool, true, false, ◌&&◌}
use mathlib.Core.List.{List, [], ◌∷◌}
use Prim.Native.Nat.add
use Prim.Native.Nat.{ℕ, suc, ◌+◌, ◌≤◌, ◌<◌}
use native.Mathlib.Decide.{ℕ_discrete}
use native.Mathlib.Omega.{arith}
use native.Mathlib.Nat.{add-zero}
use lib.Dec.{eqb, leb}
use lib.ListN.{length, drop, length-drop}
use borrow.Author.Tests.{leb-false, eq-eqb, ne_eqb}
use Rattle.std.specs.Prelude.{Ok, Err}
use Rattle.rules.specs.Words.{pick, those}
use Rattle.rules.specs.Layout.{tag_routers, tag_link, tag_end}
use Rattle.rules.specs.Table.{byte, Record, Kept, nothing_kept, keep, length_allowed, too_many, record_in, Step, good, step, Judged, accepted, refused, followed_by, judge_from, judge, routers_of, table_of}
use Rattle.rules.specs.Answers.{Answer, answered, refused_with}
use Rattle.rules.proofs.Basics.{pick_t, pick_f}
use Rattle.rules.proofs.Judging.{size_in, contents_in, Good, Steps, gives, refuses, steps, Judges, stops, ends, goes, judges, judged, judge_stops, judge_ends, judge_goes, judge_judges}
use Rattle.rules.proofs.AtPlace.{left_behind, whole_there}
use Rattle.rules.proofs.Records.{tag_order, length_contents}
use Rattle.records.specs.Steps.{record_from, step_of}
use Rattle.records.specs.declared.Step.{Step as StepHere}
use Rattle.records.specs.declared.Step.TheVariants as here
use Rattle.refusals.specs.declared.Refusal.{Refusal}
use Rattle.refusals.specs.Refusals.{number_of, answer_told}
use Rattle.tables.specs.Readings.{Judging, nothing_judged, judging_answer, judged_numbers, record_with, GivesRefusal}
use Rattle.tables.proofs.Places.{no_links, more_links, same_links}

-- ---- what judging tells, by what is kept at the end

-- what is kept behind some records
kept_after : Kept → List Record → Kept
kept_after kept [] = kept
kept_after kept (r ∷ rs) = kept_after (keep kept r) rs

-- what judging the bytes that remain tells of the whole
pub told : Kept → Judged → Answer Judging
told kept (accepted rs end) = let k = kept_after kept rs in answered (record { routers = k.routers; links = k.links; end = end })
told kept (refused number place) = refused_with nothing_judged number 0 place

-- one more for each link
links_kept : (kept : Kept) (rs : List Record) → (kept_after kept rs).links ≡ kept.links + length (table_of rs).links
unfolding kept_after keep
links_kept kept [] = omega (arith, ap length no_links)
links_kept kept (r ∷ rs) = links_kept (keep kept r) rs ∙ go (ℕ_discrete r.tag tag_link)
  where
    go : Dec (r.tag ≡ tag_link) → kept.links + pick (eqb r.tag tag_link) 1 0 + length (table_of rs).links ≡ kept.links + length (table_of (r ∷ rs)).links
    go (yes e) = rw (eq-eqb r.tag tag_link e) (omega (arith, ap length (more_links r rs e)))
    go (no e) = rw (ne_eqb r.tag tag_link e) (omega (arith, ap length (same_links r rs e)))

-- behind the first record N stays
abbrev Stays : Kept → Judged → Type 0
Stays kept (accepted rs end) = (kept_after kept rs).routers ≡ kept.routers
Stays kept (refused number place) = Unit {0}

routers_stay : {kept : Kept} {place : ℕ} {left : List ℕ} {j : Judged} → Judges kept place left j → 1 ≤ kept.tag → Stays kept j
unfolding kept_after keep
routers_stay (stops q a b) h = tt
routers_stay {kept} {place} {left} (ends g e) h = rw (ne_eqb (byte left 0) tag_routers ((tag_order kept (byte left 0) g.tagged).no_second h))
routers_stay {kept} {place} {left} (goes {j = j} g e r) h =
    let o = tag_order kept (byte left 0) g.tagged in
    go j (routers_stay r (omega (arith, o.not_below)))
  where
    go : (j : Judged) → Stays (keep kept (record_in place left)) j → Stays kept (followed_by (record_in place left) j)
    go (accepted rs end) s =
        s ∙ pick_f (eqb (byte left 0) tag_routers) (byte (contents_in left) 0) kept.routers
        (ne_eqb (byte left 0) tag_routers ((tag_order kept (byte left 0) g.tagged).no_second h))
    go (refused number at) s = tt

-- what is kept at the end is what the table says
first_told : {bytes : List ℕ} {j : Judged} → Judges nothing_kept 0 bytes j → told nothing_kept j ≡ judging_answer j
unfolding told judging_answer kept_after keep table_of routers_of those
first_told (stops q a b) = refl
first_told {bytes} (ends g e) = absurd (omega (arith, (tag_order nothing_kept (byte bytes 0) g.tagged).first_routers refl))
first_told {bytes} (goes {j = j} g e r) = go j (routers_stay r (omega (arith, first)))
  where
    first : byte bytes 0 ≡ tag_routers
    first = (tag_order nothing_kept (byte bytes 0) g.tagged).first_routers refl

    go : (j : Judged) → Stays (keep nothing_kept (record_in 0 bytes)) j
        → told nothing_kept (followed_by (record_in 0 bytes) j) ≡ judging_answer (followed_by (record_in 0 bytes) j)
    go (refused number at) s = refl
    go (accepted rs end) s =
        ap₂ (λ n k. answered (record { routers = n; links = k; end = end }))
        (s ∙ pick_t (eqb (byte bytes 0) tag_routers) (byte (contents_in bytes) 0) 0 (eq-eqb (byte bytes 0) tag_routers first))
        (links_kept nothing_kept (record_in 0 bytes ∷ rs) ∙ add.zero (length (table_of (record_in 0 bytes ∷ rs)).links))

-- what judging from a place on tells of the whole; the bound is one more than the bytes that remain
pub told_from : List ℕ → ℕ → Kept → Answer Judging
told_from bytes place kept = told kept (judge_from (suc (length (drop place bytes))) kept place (drop place bytes))

pub told_first : (bytes : List ℕ) → told_from bytes 0 nothing_kept ≡ judging_answer (judge bytes)
unfolding told_from judge
told_first bytes = first_told (judge_judges bytes)

-- ---- a record that the step gives, at its place

-- what the step's answer says of the bytes
pub record Found (bytes : List ℕ) (place : ℕ) (kept : Kept) (tag end : ℕ) : Type 0 where
  pub good_there : Good kept (drop place bytes)
  pub tag_there : byte (drop place bytes) 0 ≡ tag
  pub end_there : end ≡ place + 3 + size_in (drop place bytes)
  pub contents_there : contents_in (drop place bytes) ≡ (record_from bytes place tag end).contents

module _ (bytes : List ℕ) (place : ℕ) (kept : Kept) where
  abbrev left : List ℕ
  left = drop place bytes

  pub found : (tag end : ℕ) (s : StepHere) → s ≡ here.Record tag end → step_of bytes place s ≡ step kept place left → Found bytes place kept tag end
  unfolding step_of
  found tag end s q p = go (step kept place left) (steps kept place left) (ap (step_of bytes place) (sym q) ∙ p)
    where
      go : (s : Step) → Steps kept place left s → good (record_from bytes place tag end) end ≡ s → Found bytes place kept tag end
      go s (gives g) e = let same : record_from bytes place tag end ≡ record_in place left = cc in record {
        good_there = g;
        tag_there = sym (ap (λ r. r.tag) same);
        end_there = cc;
        contents_there = sym (ap (λ r. r.contents) same);
      }
      go s (refuses number a b) e = let z : ◌≡◌ {A = ℕ} 0 1 = cc in absurd (omega arith)

  -- ---- a turn of judging

  -- the step refuses, and so does judging
  pub told_refused : (s : StepHere) (r : Refusal) → GivesRefusal s r → step_of bytes place s ≡ step kept place left → judged_numbers (Err r) ≡ told_from bytes place kept
  unfolding step_of told_from told answer_told
  told_refused (here.Record tag end) r i e = absurd i
  told_refused (here.Refused reason at) r i e =
      ap (λ (r : Refusal). judged_numbers (Err r)) i ∙ sym (ap (told kept) (judge_stops (length left) kept place (number_of reason) at left (sym e)))

  module _ (tag end : ℕ) (f : Found bytes place kept tag end) where
    pub found_inside : (place + 3 ≤ end) × (end ≤ length bytes)
    found_inside = omega (arith, f.end_there, whole_there bytes place left refl f.good_there)

    pub found_length : length_allowed tag (length (record_from bytes place tag end).contents) ≡ true
    found_length =
        ap₂ length_allowed (sym f.tag_there) (ap (λ (c : List ℕ). length c) (sym f.contents_there) ∙ length_contents kept left f.good_there)
        ∙ f.good_there.sized

    -- no more than 256 links are kept
    pub found_few : kept.links ≤ 256 → (keep kept (record_with tag (record_from bytes place tag end).contents)).links ≤ 256
    unfolding keep too_many
    found_few h = go (eqb tag tag_link) refl
      where
        fewer : (t : Bool) → eqb (byte left 0) tag_link ≡ t → t ≡ true → too_many kept (byte left 0) ≡ false → kept.links < 256
        fewer t p q e = leb-false 256 kept.links (sym (ap (λ b. b && leb 256 kept.links) (p ∙ q)) ∙ e)

        go : (t : Bool) → eqb tag tag_link ≡ t → kept.links + pick t 1 0 ≤ 256
        go true e = omega (arith, fewer _ (ap (λ n. eqb n tag_link) f.tag_there) e f.good_there.few)
        go false e = omega arith

    -- the end record: what is kept is told
    pub told_ended : tag ≡ tag_end → judged_numbers (Ok (record { routers = kept.routers; links = kept.links; end = end })) ≡ told_from bytes place kept
    unfolding told_from told kept_after keep answer_told
    told_ended e =
        let is_end = f.tag_there ∙ e in
        let (n, l) = kept_at_end (record_in place left) is_end in
        sym (ap (told kept) (judge_ends (length left) kept place left f.good_there is_end) ∙ same n l (sym f.end_there))
      where
        -- the end record changes neither N nor the number of links
        kept_at_end : (r : Record) → r.tag ≡ tag_end → ((keep kept r).routers ≡ kept.routers) × ((keep kept r).links ≡ kept.links)
        kept_at_end r q = (rw q, rw q (add-zero kept.links))

        same : {a b c x y z : ℕ} → a ≡ x → b ≡ y → c ≡ z
            → answered {A = Judging} (record { routers = a; links = b; end = c }) ≡ answered (record { routers = x; links = y; end = z })
        same p q r = rw (p, q, r)

    -- any other: what is told from its end on is what is told from its start on
    pub told_next : tag ≢ tag_end → told_from bytes end (keep kept (record_with tag (record_from bytes place tag end).contents)) ≡ told_from bytes place kept
    unfolding told_from told kept_after keep
    told_next e =
        sym (ap (told kept) (judge_goes (length left) kept place left f.good_there (λ q. e (sym f.tag_there ∙ q)))
        ∙ told_on (record_in place left) (judge_from (length left) (keep kept (record_in place left)) (place + 3 + size_in left) (drop (3 + size_in left) left))
        ∙ ap (told (keep kept (record_in place left))) enough
        ∙ moved (keep kept (record_in place left)) (place + 3 + size_in left) (drop (3 + size_in left) left)
        (ap₂ (λ (t : ℕ) (c : List ℕ). keep kept (record_with t c)) f.tag_there f.contents_there)
        (sym f.end_there)
        (left_behind bytes place left refl ∙ ap (λ n. drop n bytes) (sym f.end_there)))
      where
        told_on : (r : Record) (j : Judged) → told kept (followed_by r j) ≡ told (keep kept r) j
        told_on r (accepted rs end) = refl
        told_on r (refused number at) = refl

        shorter : length (drop (3 + size_in left) left) < length left
        shorter = rw (length-drop (3 + size_in left) left) (omega (arith, f.good_there.whole))

        enough : judge_from (length left) (keep kept (record_in place left)) (place + 3 + size_in left) (drop (3 + size_in left) left)
            ≡ judge_from (suc (length (drop (3 + size_in left) left))) (keep kept (record_in place left)) (place + 3 + size_in left) (drop (3 + size_in left) left)
        enough =
            judged
            (judges (suc (length (drop (3 + size_in left) left))) (keep kept (record_in place left)) (place + 3 + size_in left) (drop (3 + size_in left) left) (omega arith))
            (length left) shorter

        moved : (k : Kept) (at : ℕ) (l : List ℕ) → k ≡ keep kept (record_with tag (record_from bytes place tag end).contents) → at ≡ end → l ≡ drop end bytes
            → told k (judge_from (suc (length l)) k at l) ≡ told_from bytes end (keep kept (record_with tag (record_from bytes place tag end).contents))
        moved k at l p q r = rw (p, q, r)
