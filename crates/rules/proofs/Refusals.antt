-- A table is refused by one of 1 to 7, an accepted one is judged to its end, and names never count.
-- Assumes nothing.
use mathlib.Core.Path.{◌≡◌, refl, ◌∙◌, ap}
use mathlib.Core.Bool.{Bool, true, false}
use mathlib.Core.List.{List}
use Prim.Native.Nat.{ℕ, ◌≤◌}
use native.Mathlib.Omega.{arith}
use lib.Dec.{ltb}
use lib.ListN.{length}
use borrow.Author.Tests.{ltb-false}
use Rattle.rules.specs.Words.{pick}
use Rattle.rules.specs.Table.{Record, Kept, record_in, Judged, accepted, refused, followed_by, judge, nothing_behind, read, number_of}
use Rattle.rules.specs.Pairs.{differing, too_different}
use Rattle.rules.specs.Demand1.{TableRefusals, NamesNeverCount}
use Rattle.rules.proofs.Judging.{Judges, stops, ends, goes, judge_judges}

-- ---- tables

-- if it refuses, then by one of 1 to 7
abbrev pub By-1-to-7 : Judged → Type 0
By-1-to-7 (accepted rs end) = Unit {0}
By-1-to-7 (refused number place) = (1 ≤ number) × (number ≤ 7)

pub judged_by : {kept : Kept} {place : ℕ} {left : List ℕ} {j : Judged} → Judges kept place left j → By-1-to-7 j
judged_by (stops q a b) = omega arith
judged_by (ends g e) = tt
judged_by (goes {place = place} {left = left} {j = j} g e r) = go (record_in place left) j (judged_by r)
  where
    go : (r : Record) (j : Judged) → By-1-to-7 j → By-1-to-7 (followed_by r j)
    go r (accepted rs end) h = tt
    go r (refused number place) h = h

pub read_by : (bytes : List ℕ) → By-1-to-7 (read bytes)
unfolding read
read_by bytes = go (judge bytes) (judged_by (judge_judges bytes))
  where
    ends_at : (t : Bool) (rs : List Record) (end : ℕ) → By-1-to-7 (pick t (refused 7 end) (accepted rs end))
    ends_at true rs end = omega arith
    ends_at false rs end = tt

    go : (j : Judged) → By-1-to-7 j → By-1-to-7 (nothing_behind (length bytes) j)
    go (accepted rs end) h = ends_at (ltb end (length bytes)) rs end
    go (refused number place) h = h

pub table_refusals : TableRefusals
table_refusals bytes number place e = rw e at (read_by bytes)

-- accepted bytes: judging accepts them, and nothing stands behind the end record
pub record JudgedWhole (bytes : List ℕ) : Type 0 where
  pub records : List Record
  pub end : ℕ
  pub judged_so : judge bytes ≡ accepted records end
  pub read_so : read bytes ≡ accepted records end
  pub to_end : length bytes ≤ end

pub judged_whole : (bytes : List ℕ) → number_of (read bytes) ≡ 0 → JudgedWhole bytes
unfolding read
judged_whole bytes e = go (judge bytes) refl (judged_by (judge_judges bytes))
  where
    go : (j : Judged) → judge bytes ≡ j → By-1-to-7 j → JudgedWhole bytes
    go (refused number at) q h = absurd (omega (arith, e, ap (λ j. number_of (nothing_behind (length bytes) j)) q))
    go (accepted rs end) q h = by (ltb end (length bytes)) refl
      where
        by : (t : Bool) → ltb end (length bytes) ≡ t → JudgedWhole bytes
        by true b = absurd (omega (arith, e, ap (λ j. number_of (nothing_behind (length bytes) j)) q ∙ ap (λ t. number_of (pick t (refused 7 end) (accepted rs end))) b))
        by false b = record {
          records = rs;
          end = end;
          judged_so = q;
          read_so = ap (nothing_behind (length bytes)) q ∙ ap (λ t. pick t (refused 7 end) (accepted rs end)) b;
          to_end = ltb-false end (length bytes) b;
        }

-- ---- names

pub names_never_count : NamesNeverCount
unfolding too_different differing
names_never_count old new ms ns = refl
