-- One place of a table: whether a link stands there, what is told there, and the place behind it.
-- Assumes nothing.
use mathlib.Core.Path.{◌≡◌, refl, sym, ◌∙◌, ap}
use mathlib.Core.Logic.{◌≢◌}
use mathlib.Core.Bool.{Bool, true, false, ◌&&◌, and-false}
use mathlib.Core.List.{List}
use Prim.Native.Nat.{ℕ, ◌+◌, ◌-◌, ◌*◌, ◌≤◌, ◌<◌}
use native.Mathlib.Decide.{ℕ_discrete}
use native.Mathlib.Omega.{arith}
use lib.Dec.{eqb, leb}
use lib.ListN.{length, take, drop, length-drop}
use lib.Seq.{take_all, get_or-drop}
use borrow.Author.Tests.{leb-true, le-leb, lt-leb, eq-eqb, ne_eqb}
use Rattle.std.specs.Prelude.{Some, None}
use Rattle.rules.specs.Words.{pick}
use Rattle.rules.specs.Layout.{Link, tag_link}
use Rattle.rules.specs.Table.{byte, two_bytes, link_of}
use Rattle.rules.specs.LinkQuestion.{no_more}
use Rattle.rules.proofs.Basics.{both, pick_t, pick_f}
use Rattle.links.specs.declared.Link.{Link as LinkHere}
use Rattle.links.specs.Links.{link_there, link_at, behind, next_numbers, place_in, Tells}

module _ (bytes : List ℕ) (place : ℕ) where
  -- no link stands there where the table ends too early, or where the tag is another
  pub cut : length bytes < place + 7 → link_there bytes place ≡ false
  unfolding link_there
  cut h = rw (lt-leb (place + 7) (length bytes) h)

  pub other : byte bytes place ≢ tag_link → link_there bytes place ≡ false
  unfolding link_there
  other e = rw (ne_eqb (byte bytes place) tag_link e, and-false (leb (place + 7) (length bytes)))

  -- with the right length one stands there, with another it does not
  module _ (size : ℕ) (q : size ≡ byte bytes (place + 1) * 256 + byte bytes (place + 2)) where
    length_there : two_bytes bytes (place + 1) ≡ size
    length_there = ap (λ n. byte bytes (place + 1) * 256 + byte bytes n) (omega arith) ∙ sym q

    pub other_length : size ≢ 4 → link_there bytes place ≡ false
    unfolding link_there
    other_length e =
        rw (length_there, ne_eqb size 4 e) (and-false (leb (place + 7) (length bytes) && eqb (byte bytes place) tag_link))

    pub there : place + 7 ≤ length bytes → byte bytes place ≡ tag_link → size ≡ 4 → link_there bytes place ≡ true
    unfolding link_there
    there h e f = rw (le-leb (place + 7) (length bytes) h, eq-eqb (byte bytes place) tag_link e, length_there, eq-eqb size 4 f)

  -- the link there
  pub at_none : link_there bytes place ≡ false → link_at bytes place ≡ no_more
  unfolding link_at
  at_none e = pick_f _ _ _ e

  pub at_one : link_there bytes place ≡ true → link_at bytes place ≡ record { more = 1; link = link_of (drop (place + 3) bytes) }
  unfolding link_at
  at_one e = pick_t _ _ _ e

  -- its bytes, counted from the table's start
  link_bytes : (a b weight : ℕ) → a ≡ byte bytes (place + 3) → b ≡ byte bytes (place + 4)
      → weight ≡ byte bytes (place + 5) * 256 + byte bytes (place + 6) → record { a = a; b = b; weight = weight } ≡ link_of (drop (place + 3) bytes)
  link_bytes a b weight p q r = λ i. record {
    a = (p ∙ sym (at 0 (place + 3) (omega arith))) i;
    b = (q ∙ sym (at 1 (place + 4) (omega arith))) i;
    weight = (r ∙ w) i;
  }
    where
      at : (k n : ℕ) → place + 3 + k ≡ n → byte (drop (place + 3) bytes) k ≡ byte bytes n
      at k n e = get_or-drop (place + 3) bytes k 0 ∙ ap (λ n. byte bytes n) e

      w : byte bytes (place + 5) * 256 + byte bytes (place + 6) ≡ byte (drop (place + 3) bytes) 2 * 256 + byte (drop (place + 3) bytes) 3
      w = rw (at 2 (place + 5) (omega arith), at 3 (place + 6) (omega arith))

  -- what is told where no link stands, and where one does
  pub tells_none : link_there bytes place ≡ false → Tells bytes place None
  unfolding behind next_numbers place_in
  tells_none e = (sym (at_none e), sym (pick_f _ _ _ e))

  -- the same from the bytes that are left from there on
  module _ (rest : List ℕ) (r : rest ≡ take (length bytes - place) (drop place bytes)) (h : place ≤ length bytes) where
    rest_byte : (k n : ℕ) → place + k ≡ n → byte rest k ≡ byte bytes n
    rest_byte k n e =
        ap (λ l. byte l k) (r ∙ take_all _ _ (omega (arith, length-drop place bytes))) ∙ get_or-drop place bytes k 0 ∙ ap (byte bytes) e

    tag : byte rest 0 ≡ byte bytes place
    tag = rest_byte 0 place (omega arith)

    size : byte rest 1 * 256 + byte rest 2 ≡ byte bytes (place + 1) * 256 + byte bytes (place + 2)
    size = rw (rest_byte 1 (place + 1) refl, rest_byte 2 (place + 2) refl)

    pub tells_other : ¬ ((byte rest 0 ≡ tag_link) × (byte rest 1 ≡ 0) × (byte rest 2 ≡ 4)) → Tells bytes place None
    tells_other n = tells_none (go (ℕ_discrete (byte bytes place) tag_link))
      where
        go : Dec (byte bytes place ≡ tag_link) → link_there bytes place ≡ false
        go (yes t) = other_length _ size (λ e. n (tag ∙ t, omega arith, omega arith))
        go (no t) = other t

    pub tells_one : (weight : ℕ) → 7 ≤ length rest → length rest + place ≡ length bytes → byte rest 0 ≡ tag_link → byte rest 1 ≡ 0 → byte rest 2 ≡ 4
        → weight ≡ byte rest 5 * 256 + byte rest 6 → Tells bytes place (Some (record { a = byte rest 3; b = byte rest 4; weight = weight; behind = place + 7 }))
    unfolding behind next_numbers place_in
    tells_one weight l m p q s w =
        let e = there (byte rest 1 * 256 + byte rest 2) size (omega arith) (sym tag ∙ p) (omega arith) in (
          ap (λ l. record { more = 1; link = l }) (
              link_bytes _ _ weight (rest_byte 3 (place + 3) refl) (rest_byte 4 (place + 4) refl)
              (w ∙ rw (rest_byte 5 (place + 5) refl, rest_byte 6 (place + 6) refl))
              )
              ∙ sym (at_one e),
          sym (pick_t _ _ _ e),
        )

  -- the place behind, by the link there
  pub behind_one : (l : Link) → link_at bytes place ≡ record { more = 1; link = l } → behind bytes place ≡ place + 7
  unfolding link_at behind
  behind_one l = go (link_there bytes place)
    where
      go : (t : Bool) → pick t (record { more = 1; link = link_of (drop (place + 3) bytes) }) no_more ≡ record { more = 1; link = l }
          → pick t (place + 7) place ≡ place + 7
      go true e = refl
      go false e = absurd (omega (arith, ap (λ n. n.more) e))

  pub behind_none : link_at bytes place ≡ no_more → behind bytes place ≡ place
  unfolding link_at behind
  behind_none = go (link_there bytes place)
    where
      go : (t : Bool) → pick t (record { more = 1; link = link_of (drop (place + 3) bytes) }) no_more ≡ no_more → pick t (place + 7) place ≡ place
      go true e = absurd (omega (arith, ap (λ n. n.more) e))
      go false e = refl

  -- a link that is told lies within the table
  pub told_within : (l : LinkHere) → Tells bytes place (Some l) → (behind bytes place ≡ place + 7) × (place + 7 ≤ length bytes)
  unfolding next_numbers link_at behind link_there
  told_within l t = go (link_there bytes place) refl
    where
      go : (b : Bool) → link_there bytes place ≡ b → (behind bytes place ≡ place + 7) × (place + 7 ≤ length bytes)
      go true e = (pick_t _ _ _ e, leb-true _ _ (both _ _ (both _ _ e).0).0)
      go false e = absurd (omega (arith, ap (λ n. n.more) (t.0 ∙ at_none e)))
