-- The names that a table says stand at their places in its bytes.
-- Assumes nothing.
use mathlib.Core.Path.{◌≡◌, refl, sym, ◌∙◌, ap}
use mathlib.Core.Bool.{Bool, true, false}
use mathlib.Core.List.{List, [], ◌∷◌, map}
use Prim.Native.Nat.{ℕ, ◌+◌, ◌-◌}
use native.Mathlib.Omega.{arith}
use lib.Dec.{ltb}
use lib.ListN.{length, take, drop, length-drop}
use lib.Seq.{drop-drop}
use Rattle.rules.specs.Words.{pick, those, All}
use Rattle.rules.specs.Layout.{Name}
use Rattle.rules.specs.Table.{Record, Kept, name_of, record_in, Judged, accepted, refused, followed_by, judge, nothing_behind, read, records_of, table_of, says}
use Rattle.rules.proofs.Basics.{drop_take}
use Rattle.rules.proofs.Judging.{size_in, Good, Judges, stops, ends, goes, judge_judges}
use Rattle.rules.proofs.AtPlace.{left_behind}
use Rattle.rules.proofs.Records.{length_contents}

-- a name stands at its place in these bytes
abbrev pub StandsIn : List ℕ → Name → Type 0
StandsIn bytes m = take (length m.bytes) (drop m.place bytes) ≡ m.bytes

module _ (bytes : List ℕ) where
  -- the contents of a record stand behind its header
  abbrev Stands : Record → Type 0
  Stands r = take (length r.contents) (drop (r.place + 3) bytes) ≡ r.contents

  stands : (kept : Kept) (place : ℕ) (left : List ℕ) → Good kept left → left ≡ drop place bytes → Stands (record_in place left)
  stands kept place left g e =
      ap (λ n. take n (drop (place + 3) bytes)) (length_contents kept left g)
      ∙ ap (take (size_in left)) (sym (drop-drop 3 place bytes) ∙ ap (drop 3) (sym e))

  all_stand : {kept : Kept} {place : ℕ} {left : List ℕ} {j : Judged} → Judges kept place left j → left ≡ drop place bytes → All Stands (records_of j)
  all_stand (stops q a b) e = tt
  all_stand {kept} {place} {left} (ends g t) e = (stands kept place left g e, tt)
  all_stand {kept} {place} {left} (goes {j = j} g t r) e =
      go j (all_stand r (left_behind bytes place left e))
    where
      go : (j : Judged) → All Stands (records_of j) → All Stands (records_of (followed_by (record_in place left) j))
      go (accepted rs end) h = (stands kept place left g e, h)
      go (refused number at) h = tt

  -- a name stands one byte further on
  name_stands : (r : Record) → Stands r → StandsIn bytes (name_of r)
  name_stands r h =
      let n = length r.contents in
      let l : length (drop 1 r.contents) ≡ n - 1 = length-drop 1 r.contents in
      let further : r.place + 3 + 1 ≡ r.place + 4 = omega arith in
      ap (λ m. take m (drop (r.place + 4) bytes)) l
      ∙ ap (take (n - 1)) (sym (drop-drop 1 (r.place + 3) bytes ∙ ap (λ m. drop m bytes) further))
      ∙ sym (drop_take 1 n (drop (r.place + 3) bytes))
      ∙ ap (drop 1) h

  names_of_those : (p : Record → Bool) (rs : List Record) → All Stands rs
      → All (StandsIn bytes) (map name_of (those p rs))
  unfolding those
  names_of_those p [] h = tt
  names_of_those p (r ∷ rs) h = go (p r) (names_of_those p rs h.1)
    where
      go : (t : Bool) → All (StandsIn bytes) (map name_of (those p rs))
          → All (StandsIn bytes) (map name_of (pick t (r ∷ those p rs) (those p rs)))
      go true ih = (name_stands r h.0, ih)
      go false ih = ih

  read_stand : All Stands (records_of (read bytes))
  unfolding read
  read_stand = go (judge bytes) (all_stand (judge_judges bytes) refl)
    where
      whole : (t : Bool) (rs : List Record) (end : ℕ) → All Stands rs → All Stands (records_of (pick t (refused 7 end) (accepted rs end)))
      whole true rs end h = tt
      whole false rs end h = h

      go : (j : Judged) → All Stands (records_of j) → All Stands (records_of (nothing_behind (length bytes) j))
      go (accepted rs end) h = whole (ltb end (length bytes)) rs end h
      go (refused number at) h = tt

-- every name of a table stands at its place
pub names_stand : (bytes : List ℕ) → All (StandsIn bytes) (says bytes).names
unfolding says table_of
names_stand bytes = names_of_those bytes _ (records_of (read bytes)) (read_stand bytes)
