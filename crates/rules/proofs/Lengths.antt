-- An accepted table is no longer than the longest table, a refusal's place is within it, and the first 4,096 bytes settle what is read.
-- Assumes nothing.
use mathlib.Core.Path.{◌≡◌, refl, ◌∙◌, ap}
use mathlib.Core.Logic.{◌≢◌}
use mathlib.Core.Bool.{Bool, true, false}
use mathlib.Core.List.{List, [], ◌∷◌, flatten}
use Prim.Native.Nat.{ℕ, zero, suc, ◌+◌, ◌-◌, ◌≤◌, ◌<◌, min}
use native.Mathlib.Decide.{ℕ_discrete}
use native.Mathlib.Omega.{arith}
use lib.Dec.{ltb}
use lib.ListN.{length, take, drop, length-append, length-take, length-drop}
use lib.Seq.{get_or-take, take-take}
use borrow.Author.Tests.{ltb-true, ltb-false, lt-ltb, le-ltb, eq-eqb, ne_eqb}
use Rattle.rules.specs.Words.{pick}
use Rattle.rules.specs.Layout.{Name, longest_table, tag_end, record_bytes}
use Rattle.rules.specs.Table.{byte, length_allowed, Record, Kept, nothing_kept, keep, record_in, step, Judged, accepted, refused, followed_by, judge_from, judge, nothing_behind, read, number_of, place_of}
use Rattle.rules.specs.Listing.{listing_lines, listing}
use Rattle.rules.specs.Demand1.{LengthsHold}
use Rattle.rules.proofs.Basics.{drop_take, All-map, rising_few}
use Rattle.rules.proofs.Judging.{size_in, contents_in, Good, step_good, Judges, stops, ends, goes, judges, judged, judge_judges}
use Rattle.rules.proofs.Records.{at_most_link, tag_order, record_at, size_at_most, length_contents, good_fine, end_fine}
use Rattle.rules.proofs.Chains.{Chain, last, next, bytes_of}
use Rattle.rules.proofs.Reading.{whole, their_rules, their_length}

-- ---- places

-- the routers' 4 bytes, a name for each router at most, 256 links at most, and the end's 3 bytes
whole_short : {low : ℕ} {rs : List Record} → Chain low nothing_kept 0 rs → length (bytes_of rs) ≤ longest_table
whole_short c =
    let (t, o) = whole {Exact = ⊥} (λ x. absurd x) c in
    let r = their_rules o in
    let n = rising_few (λ (m : Name). m.router) t.routers t.names r.names_rise (All-map (λ m f. f.router_below) t.names r.names_fit) in
    omega (arith, their_length o, r.few_routers, r.few_links)

-- whatever may follow what was kept ends within the longest table; before the first record the place is 0
record Near (kept : Kept) (place : ℕ) : Type 0 where
  start : kept.tag ≡ 0 → place ≡ 0
  not_above : kept.tag ≤ tag_end
  within : (rs : List Record) → Chain kept.tag kept place rs → place + length (bytes_of rs) ≤ longest_table

near_start : Near nothing_kept 0
near_start = record { start = λ e. refl; not_above = omega arith; within = λ rs c. omega (arith, whole_short c) }

module _ {kept : Kept} {place : ℕ} (n : Near kept place) where
  -- the end record may follow, so there is room for it
  near : place + 3 ≤ longest_table
  unfolding record_bytes
  near =
      elim (ℕ_discrete kept.tag 0) [
        | yes e ↦ omega (arith, n.start e)
        | no e ↦ n.within (record_at place tag_end [] ∷ []) (last refl (end_fine kept (omega arith) n.not_above))
      ]

  -- a good record leads from near to near, and ends there if it is the end record
  module _ (left : List ℕ) (g : Good kept left) where
    near_next : byte left 0 ≢ tag_end → Near (keep kept (record_in place left)) (place + 3 + size_in left)
    unfolding keep record_bytes
    near_next e =
        let o = tag_order kept (byte left 0) g.tagged in
        record {
          start = λ z. absurd (omega (arith, o.first_routers (omega (arith, o.not_below))));
          not_above = omega (arith, at_most_link (byte left 0) o.is_known e);
          within = λ rs c.
              let longer = next {place = place} {rs = rs} o.not_below e (good_fine kept left g) (rw (length_contents kept left g) c) in
              let h = n.within (record_in place left ∷ rs) longer in
              omega (arith, length_contents kept left g, length-append (contents_in left) (bytes_of rs));
        }

    near_end : byte left 0 ≡ tag_end → place + 3 + size_in left ≤ longest_table
    unfolding record_bytes
    near_end e =
        let h = n.within (record_in place left ∷ []) (last e (good_fine kept left g)) in
        omega (arith, length_contents kept left g, length-append (contents_in left) [])

-- ---- what is judged

-- where the end may be, and the place of a refusal
abbrev Within : Judged → Type 0
Within (accepted rs end) = end ≤ longest_table
Within (refused number place) = (number ≢ 0) × (place + 3 ≤ longest_table)

judged_within : {kept : Kept} {place : ℕ} {left : List ℕ} {j : Judged} → Judges kept place left j → Near kept place → Within j
judged_within (stops q a b) n = (omega arith, near n)
judged_within {left = left} (ends g e) n = near_end n left g e
judged_within {place = place} {left = left} (goes {j = j} g e r) n = go j (judged_within r (near_next n left g e))
  where
    go : (j : Judged) → Within j → Within (followed_by (record_in place left) j)
    go (accepted rs end) h = h
    go (refused number place) h = h

-- ---- the cut

-- two orders that hold together are tested alike
ltb_same : (a b c d : ℕ) → (c < d → a < b) → (d ≤ c → b ≤ a) → ltb a b ≡ ltb c d
ltb_same a b c d f g = go (ltb c d) refl
  where
    go : (t : Bool) → ltb c d ≡ t → ltb a b ≡ t
    go true e = lt-ltb a b (f (ltb-true c d e))
    go false e = le-ltb a b (g (ltb-false c d e))

-- a cut behind 20 bytes or more: the record that begins them stays what it is
module _ (kept : Kept) (left : List ℕ) (m : ℕ) (h : 20 ≤ m) where
  byte_cut : (k : ℕ) → k < 20 → byte (take m left) k ≡ byte left k
  byte_cut k l = get_or-take m left k 0 (omega arith)

  size_cut : size_in (take m left) ≡ size_in left
  size_cut = rw (byte_cut 1 (omega arith), byte_cut (1 + 1) (omega arith))

  -- the tests for what is cut off
  short_cut : (k : ℕ) → k ≤ 20 → ltb (length (take m left)) k ≡ ltb (length left) k
  short_cut k l = rw (length-take m left) (ltb_same (min m (length left)) k (length left) k (omega arith) (omega arith))

  -- n bytes of the contents
  contents_cut : (n : ℕ) → n ≤ 17 → take n (drop 3 (take m left)) ≡ take n (drop 3 left)
  contents_cut n l = rw (drop_take 3 m left) (take-take n (m - 3) (drop 3 left) (omega arith))

  -- whatever the step answers, it answers so of the cut bytes
  step_cut : (place : ℕ) → step kept place (take m left) ≡ step kept place left
  unfolding step
  step_cut place = go (length_allowed (byte left 0) (size_in left)) refl
    where
      go : (t : Bool) → length_allowed (byte left 0) (size_in left) ≡ t → step kept place (take m left) ≡ step kept place left
      go true e =
          let s = size_at_most (byte left 0) (size_in left) e in
          rw (size_cut, byte_cut 0 (omega arith), short_cut 3 (omega arith), short_cut (3 + size_in left) (omega arith), contents_cut (size_in left) s)
      go false e = rw (size_cut, byte_cut 0 (omega arith), short_cut 3 (omega arith), e)

-- the first 4,096 bytes of a table are judged as the table is; m of them remain
judged_cut : {kept : Kept} {place : ℕ} {left : List ℕ} {j : Judged} → Judges kept place left j → Near kept place
    → (m most : ℕ) → m + place ≡ 4096 → length left < most → judge_from most kept place (take m left) ≡ j
unfolding judge_from
judged_cut r n m zero h l = absurd (omega arith)
judged_cut {kept} {place} {left} (stops q a b) n m (suc most) h l = rw (step_cut kept left m (omega (arith, near n)) place, q, judge_from)
judged_cut {kept} {place} {left} (ends g e) n m (suc most) h l =
    rw (step_cut kept left m (omega (arith, near n)) place, step_good kept place left g, eq-eqb (byte left 0) tag_end e, judge_from)
judged_cut {kept} {place} {left} (goes g e r) n m (suc most) h l =
    let s = size_at_most (byte left 0) (size_in left) g.sized in
    rw (
      step_cut kept left m (omega (arith, near n)) place,
      step_good kept place left g,
      ne_eqb (byte left 0) tag_end e,
      size_cut kept left m (omega (arith, near n)),
      drop_take (3 + size_in left) m left,
      judge_from,
    )
    (ap (followed_by (record_in place left))
    (judged_cut {kept = keep kept (record_in place left)} r (near_next n left g e) (m - (3 + size_in left)) most (omega (arith, near n)) (omega (arith, g.whole, length-drop (3 + size_in left) left))))

-- ---- what is read

-- what was read of len bytes: none accepted that is longer than the longest table, and no place behind that
abbrev Short : ℕ → Judged → Type 0
Short len j = (number_of j ≡ 0 → len ≤ longest_table) × (place_of j ≤ longest_table)

module _ (bytes : List ℕ) where
  judge_within : Within (judge bytes)
  judge_within = judged_within (judge_judges bytes) near_start

  judge_cut : judge (take 4096 bytes) ≡ judge bytes
  unfolding judge
  judge_cut =
      judged (judges (suc (length bytes)) nothing_kept 0 (take 4096 bytes) (omega (arith, length-take 4096 bytes)))
      (suc (length (take 4096 bytes))) (omega arith)
      ∙ judged_cut (judge_judges bytes) near_start 4096 (suc (length bytes)) refl (omega arith)

  read_cut : read (take 4096 bytes) ≡ read bytes
  unfolding read
  read_cut = rw (judge_cut, length-take 4096 bytes) (go (judge bytes) judge_within)
    where
      go : (j : Judged) → Within j → nothing_behind (min 4096 (length bytes)) j ≡ nothing_behind (length bytes) j
      go (accepted rs end) h = rw (ltb_same end (min 4096 (length bytes)) end (length bytes) (omega arith) (omega arith))
      go (refused number place) h = refl

  read_within : Short (length bytes) (read bytes)
  unfolding read
  read_within = go (judge bytes) judge_within
    where
      ends_at : (t : Bool) (rs : List Record) (end : ℕ) → end ≤ longest_table → (t ≡ false → length bytes ≤ end)
          → Short (length bytes) (pick t (refused 7 end) (accepted rs end))
      ends_at true rs end h f = omega arith
      ends_at false rs end h f = omega (arith, f refl)

      go : (j : Judged) → Within j → Short (length bytes) (nothing_behind (length bytes) j)
      go (accepted rs end) h = ends_at (ltb end (length bytes)) rs end h (ltb-false end (length bytes))
      go (refused number place) h = (λ z. absurd (h.0 z), omega arith)

pub lengths_hold : LengthsHold
unfolding listing
lengths_hold bytes = record {
  longest = (read_within bytes).0;
  place_near = (read_within bytes).1;
  same_reading = read_cut bytes;
  same_listing = ap (λ j. flatten (listing_lines j)) (read_cut bytes);
}
