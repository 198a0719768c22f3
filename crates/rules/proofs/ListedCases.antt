-- Reading refuses exactly in the listed cases, and in no others: judging goes on behind good records only, and the first bad one decides.
-- Assumes nothing.
use mathlib.Core.Path.{◌≡◌, refl, sym, ◌∙◌, ap, subst}
use mathlib.Core.Logic.{inl, inr}
use mathlib.Core.Bool.{Bool, true, false}
use mathlib.Core.List.{List, [], ◌∷◌}
use Prim.Native.Nat.{ℕ, suc, ◌+◌, ◌≤◌}
use native.Mathlib.Omega.{arith}
use lib.Dec.{ltb}
use lib.ListN.{length, drop}
use borrow.Author.Tests.{ltb-true, lt-ltb, le-ltb}
use Rattle.rules.specs.Words.{pick}
use Rattle.rules.specs.Layout.{tag_end}
use Rattle.rules.specs.Table.{byte, Record, Kept, keep, Step, bad, record_in, Judged, accepted, refused, followed_by, judge, nothing_behind, read, number_of, place_of}
use Rattle.rules.specs.ListedCases.{Allowed, for_routers, for_name, for_link, for_end, routers_told, FirstGiven, NoneGiven, listed_cases, GoodBefore, at_start, one_more, FirstBad, EndsAt, RefusedAt}
use Rattle.rules.specs.Demand1.{InListedCases, InNoOthers, PlacesWithin}
use Rattle.rules.proofs.AtPlace.{left_behind, whole_there}
use Rattle.rules.proofs.Refusals.{judged_whole}
use Rattle.rules.proofs.Judging.{size_in, Good, Steps, gives, refuses, steps, Judges, stops, ends, goes, judged, judge_judges}
use Rattle.rules.proofs.RecordCases.{kept_by, Sound, bad_first, first_bad, good_none, none_good, allowed, sound_on, badness}

-- ---- records in file order

module _ (bytes : List ℕ) where
  good_sound : {place : ℕ} {before : List Record} → GoodBefore bytes place before → Sound before
  unfolding routers_told
  good_sound at_start = record { started = tt; few = omega arith }
  good_sound (one_more {place = place} {before = before} g n e) =
      let s = good_sound g in
      sound_on before s place (drop place bytes) (none_good before s place (drop place bytes) n) n

  good_there : {place : ℕ} {before : List Record} → GoodBefore bytes place before → NoneGiven (listed_cases before (drop place bytes))
      → Good (kept_by before) (drop place bytes)
  good_there {place} {before} g n = none_good before (good_sound g) place (drop place bytes) n

  good_within : {place : ℕ} {before : List Record} → GoodBefore bytes place before → place ≤ length bytes
  good_within at_start = omega arith
  good_within (one_more {place = place} g n e) = whole_there bytes place (drop place bytes) refl (good_there g n)

  -- what judging finds behind good records it finds of the whole; P speaks of the ending and not of the records
  lead : (P : Judged → Type 0) → ((r : Record) (j : Judged) → P j → P (followed_by r j)) → {place : ℕ} {before : List Record} → GoodBefore bytes place before
      → (j : Judged) → Judges (kept_by before) place (drop place bytes) j → P j → P (judge bytes)
  unfolding judge
  lead P c at_start j h p = subst P (sym (judged h (suc (length bytes)) (omega arith))) p
  lead P c (one_more {place = place} {before = before} g n e) j h p =
      let left = drop place bytes in
      lead P c g (followed_by (record_in place left) j)
      (goes (good_there g n) e (subst (λ l. Judges (kept_by (record_in place left ∷ before)) (place + 3 + size_in left) l j) (sym (left_behind bytes place left refl)) h))
      (c (record_in place left) j p)

  -- what judging gives: the first bad record, or where the end record ends
  abbrev Told : Judged → Type 0
  Told (accepted rs end) = EndsAt bytes end
  Told (refused number place) = FirstBad bytes number place

  told_on : (r : Record) (j : Judged) → Told j → Told (followed_by r j)
  told_on r (accepted rs end) h = h
  told_on r (refused number place) h = h

  -- nothing stands in an end record
  no_contents : (kept : Kept) (left : List ℕ) → Good kept left → byte left 0 ≡ tag_end → size_in left ≡ 0
  no_contents kept left g e = go (allowed (byte left 0) (size_in left) g.sized) e
    where
      go : {tag len : ℕ} → Allowed tag len → tag ≡ tag_end → len ≡ 0
      go for_routers e = absurd (omega arith)
      go (for_name l h) e = absurd (omega arith)
      go for_link e = absurd (omega arith)
      go for_end e = refl

  told : {kept : Kept} {place : ℕ} {left : List ℕ} {j : Judged} → Judges kept place left j
      → (before : List Record) → kept ≡ kept_by before → left ≡ drop place bytes → GoodBefore bytes place before → Told j
  told {kept} {place} {left} (stops q a b) before k l g = record {
    before = before;
    good_before = g;
    decides = bad_first before (good_sound g) place (drop place bytes) (rw (k, l) at q);
  }
  told {kept} {place} {left} (ends G e) before k l g = record {
    place = place;
    before = before;
    good_before = g;
    good = good_none before (good_sound g) place (drop place bytes) (rw (k, l) at G);
    is_end = rw l at e;
    behind = omega (arith, no_contents kept left G e);
  }
  told {kept} {place} {left} (goes {j = j} G e r) before k l g =
      told_on (record_in place left) j (told r (record_in place left ∷ before) (ap (λ k. keep k (record_in place left)) k) (left_behind bytes place left l)
      (subst (λ l. GoodBefore bytes (place + 3 + size_in l) (record_in place l ∷ before)) (sym l)
      (one_more g (good_none before (good_sound g) place (drop place bytes) (rw (k, l) at G)) (rw l at e))))

  judged_told : Told (judge bytes)
  judged_told = told (judge_judges bytes) [] refl refl at_start

  -- ---- the other way round

  -- a record is refused by 1 to 6
  few_numbers : (place : ℕ) {number : ℕ} {before : List Record} → Sound before → FirstGiven (listed_cases before (drop place bytes)) number
      → (1 ≤ number) × (number ≤ 6)
  few_numbers place {number} {before} s f =
      go (steps (kept_by before) place (drop place bytes)) (first_bad before s place (drop place bytes) f)
    where
      go : {t : Step} → Steps (kept_by before) place (drop place bytes) t → t ≡ bad number place → (1 ≤ number) × (number ≤ 6)
      go (gives g) e = absurd (omega (arith, ap badness e))
      go (refuses m a b) e = omega (arith, ap badness e)

  bad_judged : {number place : ℕ} → FirstBad bytes number place → judge bytes ≡ refused number place
  bad_judged {number} {place} f =
      let s = good_sound f.good_before in
      let (a, b) = few_numbers place s f.decides in
      lead (λ j. j ≡ refused number place) (λ r j e. rw e) f.good_before (refused number place)
      (stops (first_bad f.before s place (drop place bytes) f.decides) a b) refl

  end_judged : {end : ℕ} → EndsAt bytes end → (rs : List Record) × (judge bytes ≡ accepted rs end)
  end_judged {end} f =
      let left = drop f.place bytes in
      let g = good_there f.good_before f.good in
      let at : f.place + 3 + size_in left ≡ end = omega (arith, f.behind, no_contents (kept_by f.before) left g f.is_end) in
      lead (λ j. (rs : List Record) × (j ≡ accepted rs end)) (λ r j (rs, e). (r ∷ rs, rw e)) f.good_before _ (ends g f.is_end)
      (record_in f.place left ∷ [], ap (accepted (record_in f.place left ∷ [])) at)

  -- the end record lies within the bytes
  end_within : {end : ℕ} → EndsAt bytes end → end ≤ length bytes
  end_within f =
      let left = drop f.place bytes in
      let g = good_there f.good_before f.good in
      omega (arith, f.behind, no_contents (kept_by f.before) left g f.is_end, whole_there bytes f.place left refl g)

-- ---- reading

-- 1 for a refusal, 0 for an accepted table
abbrev refusals : Judged → ℕ
refusals (accepted rs end) = 0
refusals (refused number place) = 1

-- the number and the place are those of the refusal
same_number : {number place m at : ℕ} → refused m at ≡ refused number place → (m ≡ number) × (at ≡ place)
same_number e = (ap number_of e, ap place_of e)

pub in_listed_cases : InListedCases
unfolding read
in_listed_cases bytes number place = (go (judge bytes) (judged_told bytes), back)
  where
    at_end : (end : ℕ) (rs : List Record) → EndsAt bytes end → (t : Bool) → ltb end (length bytes) ≡ t
        → pick t (refused 7 end) (accepted rs end) ≡ refused number place → RefusedAt bytes number place
    at_end end rs f true l e =
        let (m, at) = same_number e in
        inr (sym m, subst (EndsAt bytes) at f, omega (arith, ltb-true end (length bytes) l))
    at_end end rs f false l e = absurd (omega (arith, ap refusals e))

    go : (j : Judged) → Told bytes j → nothing_behind (length bytes) j ≡ refused number place → RefusedAt bytes number place
    go (accepted rs end) f e = at_end end rs f (ltb end (length bytes)) refl e
    go (refused m at) f e = let (p, q) = same_number e in inl (rw (sym p, sym q) f)

    back : RefusedAt bytes number place → nothing_behind (length bytes) (judge bytes) ≡ refused number place
    back (inl f) = ap (nothing_behind (length bytes)) (bad_judged bytes f)
    back (inr (m, f, l)) =
        let (rs, e) = end_judged bytes f in
        ap (nothing_behind (length bytes)) e ∙ rw (lt-ltb place (length bytes) l, m)

pub in_no_others : InNoOthers
unfolding read
in_no_others bytes = (there, back)
  where
    there : number_of (read bytes) ≡ 0 → EndsAt bytes (length bytes)
    there e =
        let w = judged_whole bytes e in
        let f = subst (Told bytes) w.judged_so (judged_told bytes) in
        let at : w.end ≡ length bytes = omega (arith, w.to_end, end_within bytes f) in
        subst (EndsAt bytes) at f

    back : EndsAt bytes (length bytes) → number_of (nothing_behind (length bytes) (judge bytes)) ≡ 0
    back f =
        let (rs, e) = end_judged bytes f in
        rw (e, le-ltb (length bytes) (length bytes) (omega arith))

pub places_within : PlacesWithin
places_within bytes number place e = go ((in_listed_cases bytes number place).0 e)
  where
    go : RefusedAt bytes number place → place ≤ length bytes
    go (inl f) = good_within bytes f.good_before
    go (inr (m, f, l)) = omega arith
