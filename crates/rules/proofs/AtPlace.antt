-- The bytes that remain, counted from the start of the table.
-- Assumes nothing.
use mathlib.Core.Path.{◌≡◌, refl, sym, ◌∙◌, ap, ap₂}
use mathlib.Core.List.{List, ◌++◌}
use Prim.Native.Nat.{ℕ, ◌+◌, ◌*◌, ◌≤◌}
use native.Mathlib.Nat.{add-zero}
use native.Mathlib.Omega.{arith}
use lib.ListN.{length, drop, length-append, length-drop}
use lib.Seq.{drop_at, drop-drop, get_or-drop}
use Rattle.rules.specs.Layout.{record_bytes}
use Rattle.rules.specs.Table.{byte, Kept}
use Rattle.rules.proofs.Judging.{size_in, Good}

module _ (bytes : List ℕ) (place : ℕ) (left : List ℕ) (e : left ≡ drop place bytes) where
  pub byte_there : (k : ℕ) → byte left k ≡ byte bytes (place + k)
  byte_there k = ap (λ l. byte l k) e ∙ get_or-drop place bytes k 0

  pub tag_there : byte left 0 ≡ byte bytes place
  tag_there = byte_there 0 ∙ ap (byte bytes) (add-zero place)

  pub size_there : size_in left ≡ byte bytes (place + 1) * 256 + byte bytes (place + 2)
  size_there = ap₂ (λ h l. h * 256 + l) (byte_there 1) (byte_there 2)

  -- what remains behind the first record
  pub left_behind : drop (3 + size_in left) left ≡ drop (place + 3 + size_in left) bytes
  left_behind =
      let further : place + (3 + size_in left) ≡ place + 3 + size_in left = omega arith in
      ap (drop (3 + size_in left)) e ∙ drop-drop (3 + size_in left) place bytes ∙ ap (λ n. drop n bytes) further

  -- a good record lies within the table
  pub whole_there : {kept : Kept} → Good kept left → place + 3 + size_in left ≤ length bytes
  whole_there g = omega (arith, g.headed, g.whole, ap length e, length-drop place bytes)

-- a record whose bytes stand at this place, and others behind them
module _ (bytes : List ℕ) (place tag : ℕ) (c rest : List ℕ) (e : record_bytes tag c ++ rest ≡ drop place bytes) where
  pub tag_at : byte bytes place ≡ tag
  unfolding record_bytes
  tag_at = sym (tag_there bytes place (record_bytes tag c ++ rest) e)

  pub size_at : byte bytes (place + 1) * 256 + byte bytes (place + 2) ≡ length c
  unfolding record_bytes
  size_at = sym (size_there bytes place (record_bytes tag c ++ rest) e) ∙ omega arith

  pub contents_at : c ++ rest ≡ drop (place + 3) bytes
  unfolding record_bytes
  contents_at = ap (drop 3) e ∙ drop-drop 3 place bytes

  pub rest_at : rest ≡ drop (place + 3 + length c) bytes
  rest_at = sym (drop_at c rest (length c) refl) ∙ ap (drop (length c)) contents_at ∙ drop-drop (length c) (place + 3) bytes

  pub within : place + 3 + length c ≤ length bytes
  unfolding record_bytes
  within = omega (arith, ap length e, length-append c rest, length-drop place bytes)
