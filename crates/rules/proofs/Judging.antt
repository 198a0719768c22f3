-- Judging as a relation: what held at each record. Every theorem on judging is then an induction over three cases.
-- Assumes nothing.
use mathlib.Core.Path.{◌≡◌, refl, ◌∙◌, ap}
use mathlib.Core.Logic.{◌≢◌}
use mathlib.Core.Bool.{Bool, true, false}
use mathlib.Core.List.{List, [], ◌∷◌}
use Prim.Native.Nat.{ℕ, zero, suc, ◌+◌, ◌≤◌, ◌<◌}
use native.Mathlib.Decide.{ℕ_discrete}
use native.Mathlib.Omega.{arith}
use lib.ListN.{length, take, drop, length-drop}
use borrow.Author.Tests.{ltb-false, le-ltb, eq-eqb, ne_eqb, not-false}
use Rattle.rules.specs.Words.{pick, Line, first◌otherwise◌, All}
use Rattle.rules.specs.Layout.{tag_end}
use Rattle.rules.specs.Table.{byte, two_bytes, Kept, nothing_kept, keep, bad_tag, length_allowed, contents_fit, not_above, too_many, record_in, Step, good, bad, step_refusals, step, Judged, accepted, refused, followed_by, judge_from, judge}

-- ---- one record

-- the length of the first record's contents, and the contents
abbrev pub size_in : List ℕ → ℕ
size_in left = two_bytes left 1

abbrev pub contents_in : List ℕ → List ℕ
contents_in left = take (size_in left) (drop 3 left)

-- the first of the bytes that remain is a good record: none of the tests applies
pub record Good (kept : Kept) (left : List ℕ) : Type 0 where
  pub headed : 3 ≤ length left
  pub tagged : bad_tag kept (byte left 0) ≡ false
  pub sized : length_allowed (byte left 0) (size_in left) ≡ true
  pub whole : 3 + size_in left ≤ length left
  pub fits : contents_fit kept.routers (byte left 0) (contents_in left) ≡ true
  pub above : not_above kept (byte left 0) (contents_in left) ≡ false
  pub few : too_many kept (byte left 0) ≡ false

-- what the step answers: a good record, or a number from 1 to 6
pub data Steps (kept : Kept) (place : ℕ) (left : List ℕ) : Step → Type 0 where
  gives : Good kept left → Steps kept place left (good (record_in place left) (place + 3 + size_in left))
  refuses : (number : ℕ) → 1 ≤ number → number ≤ 6 → Steps kept place left (bad number place)

-- the number of a bad record
abbrev bad_number : Step → ℕ
bad_number (good r end) = 0
bad_number (bad number place) = number

-- a line that gives a number from 1 to 6 at the place
abbrev Refuses : ℕ → Line Step → Type 0
Refuses place l = (l.gives ≡ bad (bad_number l.gives) place) × (1 ≤ bad_number l.gives) × (bad_number l.gives ≤ 6)

-- of such lines the first that applies refuses, and where none does the other step is given
data FirstLine (place : ℕ) (ls : List (Line Step)) (other : Step) : Step → Type 0 where
  one_applies : (number : ℕ) → 1 ≤ number → number ≤ 6 → FirstLine place ls other (bad number place)
  none_applies : All (λ l. l.applies ≡ false) ls → FirstLine place ls other other

first_line : (place : ℕ) (ls : List (Line Step)) (other : Step) → All (Refuses place) ls → FirstLine place ls other (first ls otherwise other)
first_line place [] other h = none_applies tt
first_line place (l ∷ ls) other ((e, a, b), h) = go l.applies refl (first_line place ls other h)
  where
    later : l.applies ≡ false → {s : Step} → FirstLine place ls other s → FirstLine place (l ∷ ls) other s
    later q (one_applies n a b) = one_applies n a b
    later q (none_applies f) = none_applies (q, f)

    go : (t : Bool) → l.applies ≡ t → FirstLine place ls other (first ls otherwise other) → FirstLine place (l ∷ ls) other (pick t l.gives (first ls otherwise other))
    go true q ih = rw e (one_applies (bad_number l.gives) a b)
    go false q ih = later q ih

pub steps : (kept : Kept) (place : ℕ) (left : List ℕ) → Steps kept place left (step kept place left)
unfolding step
steps kept place left = go (first_line place (step_refusals kept place left) (good (record_in place left) (place + 3 + size_in left)) numbers)
  where
    numbers : All (Refuses place) (step_refusals kept place left)
    numbers = ((refl, omega arith, omega arith), ((refl, omega arith, omega arith), ((refl, omega arith, omega arith), ((refl, omega arith, omega arith), ((refl, omega arith, omega arith), ((refl, omega arith, omega arith), ((refl, omega arith, omega arith), tt)))))))

    go : {s : Step} → FirstLine place (step_refusals kept place left) (good (record_in place left) (place + 3 + size_in left)) s → Steps kept place left s
    go (one_applies n a b) = refuses n a b
    go (none_applies (p, (q, (r, (s, (t, (u, (v, _)))))))) = gives (record {
      headed = ltb-false (length left) 3 p;
      tagged = q;
      sized = not-false (length_allowed (byte left 0) (size_in left)) r;
      whole = ltb-false (length left) (3 + size_in left) s;
      fits = not-false (contents_fit kept.routers (byte left 0) (contents_in left)) t;
      above = u;
      few = v;
    })

-- a good record is what the step gives
pub step_good : (kept : Kept) (place : ℕ) (left : List ℕ) → Good kept left
    → step kept place left ≡ good (record_in place left) (place + 3 + size_in left)
unfolding step
step_good kept place left g =
    rw (
      le-ltb (length left) 3 g.headed,
      g.tagged,
      g.sized,
      le-ltb (length left) (3 + size_in left) g.whole,
      g.fits,
      g.above,
      g.few,
    )

-- ---- the records

-- judging the bytes that remain gives j
pub data Judges : Kept → ℕ → List ℕ → Judged → Type 0 where
  stops : {kept : Kept} {place number : ℕ} {left : List ℕ} → step kept place left ≡ bad number place → 1 ≤ number → number ≤ 6
      → Judges kept place left (refused number place)
  ends : {kept : Kept} {place : ℕ} {left : List ℕ} → Good kept left → byte left 0 ≡ tag_end
      → Judges kept place left (accepted (record_in place left ∷ []) (place + 3 + size_in left))
  goes : {kept : Kept} {place : ℕ} {left : List ℕ} {j : Judged} → Good kept left → byte left 0 ≢ tag_end
      → Judges (keep kept (record_in place left)) (place + 3 + size_in left) (drop (3 + size_in left) left) j
      → Judges kept place left (followed_by (record_in place left) j)

-- one turn of judging, by cases
pub judge_stops : (most : ℕ) (kept : Kept) (place number at : ℕ) (left : List ℕ) → step kept place left ≡ bad number at
    → judge_from (suc most) kept place left ≡ refused number at
unfolding judge_from
judge_stops most kept place number at left e = rw (e, judge_from)

pub judge_ends : (most : ℕ) (kept : Kept) (place : ℕ) (left : List ℕ) → Good kept left → byte left 0 ≡ tag_end
    → judge_from (suc most) kept place left ≡ accepted (record_in place left ∷ []) (place + 3 + size_in left)
unfolding judge_from
judge_ends most kept place left g e = rw (step_good kept place left g, eq-eqb (byte left 0) tag_end e, judge_from)

pub judge_goes : (most : ℕ) (kept : Kept) (place : ℕ) (left : List ℕ) → Good kept left → byte left 0 ≢ tag_end
    → judge_from (suc most) kept place left
    ≡ followed_by (record_in place left) (judge_from most (keep kept (record_in place left)) (place + 3 + size_in left) (drop (3 + size_in left) left))
unfolding judge_from
judge_goes most kept place left g e = rw (step_good kept place left g, ne_eqb (byte left 0) tag_end e, judge_from)

-- a good record takes some of the bytes that remain
shorter : (kept : Kept) (left : List ℕ) → Good kept left → (most : ℕ) → length left < suc most → length (drop (3 + size_in left) left) < most
shorter kept left g most h = rw (length-drop (3 + size_in left) left) (omega (arith, g.whole))

-- where the bound is above the number of bytes that remain, judging is so
pub judges : (most : ℕ) (kept : Kept) (place : ℕ) (left : List ℕ) → length left < most → Judges kept place left (judge_from most kept place left)
judges zero kept place left h = absurd (omega arith)
judges (suc most) kept place left h =
    go (step kept place left) refl (steps kept place left) (ℕ_discrete (byte left 0) tag_end)
    (judges most (keep kept (record_in place left)) (place + 3 + size_in left) (drop (3 + size_in left) left))
  where
    rest : Judged
    rest = judge_from most (keep kept (record_in place left)) (place + 3 + size_in left) (drop (3 + size_in left) left)

    go : (s : Step) → step kept place left ≡ s → Steps kept place left s → Dec (byte left 0 ≡ tag_end)
        → (length (drop (3 + size_in left) left) < most
        → Judges (keep kept (record_in place left)) (place + 3 + size_in left) (drop (3 + size_in left) left) rest)
        → Judges kept place left (judge_from (suc most) kept place left)
    go s q (refuses number a b) d ih = rw (judge_stops most kept place number place left q) (stops q a b)
    go s q (gives g) (yes e) ih = rw (judge_ends most kept place left g e) (ends g e)
    go s q (gives g) (no e) ih = rw (judge_goes most kept place left g e) (goes g e (ih (shorter kept left g most h)))

-- and nothing else is
pub judged : {kept : Kept} {place : ℕ} {left : List ℕ} {j : Judged} → Judges kept place left j
    → (most : ℕ) → length left < most → judge_from most kept place left ≡ j
judged (stops q a b) zero h = absurd (omega arith)
judged {kept} {place} {left} (stops {number = number} q a b) (suc most) h = judge_stops most kept place number place left q
judged (ends g e) zero h = absurd (omega arith)
judged {kept} {place} {left} (ends g e) (suc most) h = judge_ends most kept place left g e
judged (goes g e r) zero h = absurd (omega arith)
judged {kept} {place} {left} (goes g e r) (suc most) h =
    judge_goes most kept place left g e ∙ ap (followed_by (record_in place left)) (judged r most (shorter kept left g most h))

pub judge_judges : (bytes : List ℕ) → Judges nothing_kept 0 bytes (judge bytes)
unfolding judge
judge_judges bytes = judges (suc (length bytes)) nothing_kept 0 bytes (omega arith)
