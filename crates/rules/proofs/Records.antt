-- One record: the bytes that a good record is, and what it says by its tag.
-- Assumes nothing.
use mathlib.Core.Path.{◌≡◌, refl, sym, ◌∙◌, ap}
use mathlib.Core.Logic.{◌≢◌}
use mathlib.Core.Bool.{Bool, true, false, ◌&&◌, ◌||◌, not, and-false, false≢true}
use mathlib.Core.List.{List, [], ◌∷◌, ◌++◌}
use Prim.Native.Nat.{ℕ, suc, ◌+◌, ◌-◌, ◌/◌, ◌%◌, ◌≤◌, ◌<◌}
use native.Mathlib.Decide.{ℕ_discrete, dec_le}
use native.Mathlib.Omega.{arith}
use lib.Dec.{eqb, ltb, leb}
use lib.ListN.{length, drop, length-drop, length-append, take-append-drop, drop_of_length-le}
use lib.Seq.{length-take-le, take_at, drop_at, drop-cons, drop-drop}
use borrow.Author.Tests.{ltb-false, leb-true, leb-false, eqb-true, eqb-false, lt-ltb, le-ltb, le-leb, lt-leb, eq-eqb, ne_eqb, not-false}
use Rattle.rules.specs.Words.{pick}
use Rattle.rules.specs.Layout.{tag_routers, tag_name, tag_link, tag_end, record_bytes}
use Rattle.rules.specs.Table.{byte, Record, known_tag, length_allowed, routers_fit, contents_fit, key, Kept, bad_tag, not_above, too_many}
use Rattle.rules.proofs.Basics.{both, both_pass, neither}
use Rattle.rules.proofs.Judging.{Good, size_in, contents_in}

-- ---- the tags

-- no tag but the end's is above a link's, and none stands between those of names and links
pub at_most_link : (tag : ℕ) → known_tag tag ≡ true → tag ≢ tag_end → tag ≤ tag_link
unfolding known_tag
at_most_link tag k e =
    elim (dec_le tag tag_link) [
      | yes h ↦ h
      | no h ↦
          let (r, n, l) : (tag ≢ tag_routers) × (tag ≢ tag_name) × (tag ≢ tag_link) = omega arith in
          absurd (false≢true (rw (ne_eqb tag tag_routers r, ne_eqb tag tag_name n, ne_eqb tag tag_link l, ne_eqb tag tag_end e) at k))
    ]

pub link_next : (tag : ℕ) → known_tag tag ≡ true → tag_name < tag → tag_link ≤ tag
unfolding known_tag
link_next tag k h = elim (ℕ_discrete tag 3) [ yes q ↦ absurd (false≢true (rw q at k)) | no q ↦ omega arith ]

-- records of these tags stand in strictly rising order
abbrev pub rising_tag : ℕ → Bool
rising_tag tag = eqb tag tag_name || eqb tag tag_link

-- the tag may stand behind what was kept
pub record InOrder (kept : Kept) (tag : ℕ) : Type 0 where
  pub is_known : known_tag tag ≡ true
  pub first_routers : kept.tag ≡ 0 → tag ≡ tag_routers
  pub no_second : 1 ≤ kept.tag → tag ≢ tag_routers
  pub not_below : kept.tag ≤ tag

-- a tag that is not bad is in order, and the other way round
pub tag_order : (kept : Kept) (tag : ℕ) → bad_tag kept tag ≡ false → InOrder kept tag
unfolding bad_tag
tag_order kept tag e =
    let p = neither (not (known_tag tag) || (eqb kept.tag 0 && not (eqb tag tag_routers)) || (ltb 0 kept.tag && eqb tag tag_routers)) (ltb tag kept.tag) e in
    let q = neither (not (known_tag tag) || (eqb kept.tag 0 && not (eqb tag tag_routers))) (ltb 0 kept.tag && eqb tag tag_routers) p.0 in
    let r = neither (not (known_tag tag)) (eqb kept.tag 0 && not (eqb tag tag_routers)) q.0 in
    record {
      is_known = not-false (known_tag tag) r.0;
      first_routers = λ h. eqb-true tag tag_routers (not-false (eqb tag tag_routers) (rw (eq-eqb kept.tag 0 h) at r.1));
      no_second = λ h. eqb-false tag tag_routers (rw (lt-ltb 0 kept.tag h) at q.1);
      not_below = ltb-false tag kept.tag p.1;
    }

pub order_tag : (kept : Kept) (tag : ℕ) → InOrder kept tag → bad_tag kept tag ≡ false
unfolding bad_tag
order_tag kept tag o =
    elim (ℕ_discrete kept.tag 0) [
      | yes e ↦ rw (o.is_known, e, o.first_routers e)
      | no e ↦
          let later = ne_eqb tag tag_routers (o.no_second (omega arith)) in
          rw (o.is_known, ne_eqb kept.tag 0 e, later, lt-ltb 0 kept.tag (omega arith), le-ltb tag kept.tag o.not_below)
    ]

-- ---- good records and their bytes

abbrev pub record_at : ℕ → ℕ → List ℕ → Record
record_at place tag contents = record { place = place; tag = tag; contents = contents }

-- the length and the contents are allowed for the tag, in a table of n routers
pub record Passes (n tag : ℕ) (contents : List ℕ) : Type 0 where
  pub sized : length_allowed tag (length contents) ≡ true
  pub fits : contents_fit n tag contents ≡ true

-- what is asked of a record, by its tag and contents
pub record Fine (kept : Kept) (tag : ℕ) (contents : List ℕ) : Type 0 where
  pub tagged : bad_tag kept tag ≡ false
  pub passes : Passes kept.routers tag contents
  pub above : not_above kept tag contents ≡ false
  pub few : too_many kept tag ≡ false

-- no tag allows more than 17
pub size_at_most : (tag size : ℕ) → length_allowed tag size ≡ true → size ≤ 17
unfolding length_allowed
size_at_most tag size e = go (eqb tag tag_routers) (eqb tag tag_name) (eqb tag tag_link) (eqb tag tag_end) e
  where
    go : (a b c d : Bool)
        → pick a (eqb size 1) (pick b (leb 2 size && leb size 17) (pick c (eqb size 4) (pick d (eqb size 0) false))) ≡ true → size ≤ 17
    go true b c d e = omega (arith, eqb-true size 1 e)
    go false true c d e = leb-true size 17 (both (leb 2 size) (leb size 17) e).1
    go false false true d e = omega (arith, eqb-true size 4 e)
    go false false false true e = omega (arith, eqb-true size 0 e)
    go false false false false e = absurd (false≢true e)

-- the header's three bytes, and what follows
pub header : (left : List ℕ) → 3 ≤ length left → left ≡ byte left 0 ∷ byte left 1 ∷ byte left 2 ∷ drop 3 left
header [] h = absurd (omega arith)
header (a ∷ []) h = absurd (omega arith)
header (a ∷ b ∷ []) h = absurd (omega arith)
header (a ∷ b ∷ c ∷ left) h = refl

module _ (kept : Kept) (left : List ℕ) (g : Good kept left) where
  pub length_contents : length (contents_in left) ≡ size_in left
  length_contents = length-take-le (size_in left) (drop 3 left) (rw (length-drop 3 left) (omega (arith, g.whole)))

  -- a good record as it is read is good by its tag and contents
  pub good_fine : Fine kept (byte left 0) (contents_in left)
  good_fine = record {
    tagged = g.tagged;
    passes = record { sized = rw length_contents g.sized; fits = g.fits };
    above = g.above;
    few = g.few;
  }

  -- a good record is its bytes, and others may follow
  pub good_bytes : left ≡ record_bytes (byte left 0) (contents_in left) ++ drop (3 + size_in left) left
  unfolding record_bytes
  good_bytes =
      let few = size_at_most (byte left 0) (size_in left) g.sized in
      header left g.headed ∙ go (length (contents_in left)) (omega (arith, length_contents)) (omega (arith, length_contents))
    where
      go : (len : ℕ) → len / 256 ≡ byte left 1 → len % 256 ≡ byte left 2
          → byte left 0 ∷ byte left 1 ∷ byte left 2 ∷ drop 3 left ≡ byte left 0 ∷ len / 256 ∷ len % 256 ∷ (contents_in left ++ drop (3 + size_in left) left)
      go len h l = rw (h, l, ← drop-drop (size_in left) 3 left, take-append-drop (size_in left) (drop 3 left))

-- the bytes of a record, and what stands behind them, as they are read
module _ (tag : ℕ) (contents rest : List ℕ) where
  abbrev bytes : List ℕ
  bytes = record_bytes tag contents ++ rest

  pub read_size : size_in bytes ≡ length contents
  unfolding record_bytes
  read_size = omega arith

  pub read_contents : contents_in bytes ≡ contents
  unfolding record_bytes
  read_contents = take_at contents rest _ (sym read_size)

  pub read_rest : drop (3 + size_in bytes) bytes ≡ rest
  unfolding record_bytes
  read_rest = drop_at (record_bytes tag contents) rest (3 + size_in bytes) (omega (arith, read_size))

  -- what is good by its tag and contents is good as it is read
  pub fine_good : (kept : Kept) → Fine kept tag contents → Good kept bytes
  unfolding record_bytes
  fine_good kept f = record {
    headed = omega arith;
    tagged = f.tagged;
    sized = rw read_size f.passes.sized;
    whole = omega (arith, read_size, length-append contents rest);
    fits = rw read_contents f.passes.fits;
    above = rw read_contents f.above;
    few = f.few;
  }

-- ---- what a record says, by its tag

-- such a record behind one of its own tag has a key above that one's, and the other way round
pub above_key : (kept : Kept) (tag : ℕ) (contents : List ℕ) → rising_tag tag ≡ true → not_above kept tag contents ≡ false
    → kept.tag ≡ tag → kept.last < key tag contents
unfolding not_above
above_key kept tag contents o e s = leb-false (key tag contents) kept.last (rw (o, eq-eqb tag kept.tag (sym s)) at e)

pub key_above : (kept : Kept) (tag : ℕ) (contents : List ℕ) → (kept.tag ≡ tag → kept.last < key tag contents) → not_above kept tag contents ≡ false
unfolding not_above
key_above kept tag contents f =
    elim (ℕ_discrete kept.tag tag) [
      | yes e ↦ rw (lt-leb (key tag contents) kept.last (f e)) (and-false (rising_tag tag && eqb tag kept.tag))
      | no e ↦ rw (ne_eqb tag kept.tag (λ d. e (sym d)), and-false)
    ]

-- one link more may stand where fewer than 256 stand before it, and behind it one fewer; t says whether the tag is a link's
pub few_links : (t : Bool) (links more : ℕ) → (t && leb 256 links) ≡ false → (t ≡ true → more ≤ 256 - (links + pick t 1 0))
    → t ≡ true → suc more ≤ 256 - links
few_links true links more f h e = omega (arith, leb-false 256 links f, h refl)
few_links false links more f h e = absurd (false≢true e)

pub links_few : (t : Bool) (links more : ℕ) → (t ≡ true → suc more ≤ 256 - links)
    → ((t && leb 256 links) ≡ false) × (t ≡ true → more ≤ 256 - (links + pick t 1 0))
links_few true links more h = (lt-leb 256 links (omega (arith, h refl)), λ e. omega (arith, h refl))
links_few false links more h = (refl, λ e. absurd (false≢true e))

-- the last byte of a list
pub last_byte : (bytes : List ℕ) (i : ℕ) → length bytes ≡ suc i → drop i bytes ≡ byte bytes i ∷ []
last_byte bytes i e = drop-cons bytes i 0 (omega arith) ∙ ap (λ (r : List ℕ). byte bytes i ∷ r) (drop_of_length-le bytes {i = suc i} (omega arith))

-- what a routers record says, and that whatever may be said so is a routers record; the same for the end
pub fine_routers : (kept : Kept) (contents : List ℕ) → Fine kept tag_routers contents
    → (contents ≡ byte contents 0 ∷ []) × (1 ≤ byte contents 0) × (byte contents 0 ≤ 64)
unfolding length_allowed contents_fit routers_fit
fine_routers kept contents f =
    let (some, few) = both (leb 1 (byte contents 0)) _ f.passes.fits in (
      last_byte contents 0 (eqb-true (length contents) 1 f.passes.sized),
      leb-true 1 (byte contents 0) some,
      omega (arith, leb-true (byte contents 0) _ few),
    )

pub routers_fine : (kept : Kept) (n : ℕ) → kept.tag ≡ 0 → 1 ≤ n → n ≤ 64 → Fine kept tag_routers (n ∷ [])
unfolding known_tag length_allowed contents_fit routers_fit not_above too_many
routers_fine kept n z some few = record {
  tagged = order_tag kept tag_routers (record { is_known = refl; first_routers = λ e. refl; no_second = omega arith; not_below = omega arith });
  passes = record { sized = refl; fits = both_pass (leb 1 n) _ (le-leb 1 n some) (le-leb n _ (omega arith)) };
  above = refl;
  few = refl;
}

-- the tags behind the routers record
pub behind_routers : {tag : ℕ} (kept : Kept) → known_tag tag ≡ true → tag ≢ tag_routers → 1 ≤ kept.tag → kept.tag ≤ tag → bad_tag kept tag ≡ false
behind_routers {tag} kept k n s h = order_tag kept tag (record { is_known = k; first_routers = omega arith; no_second = λ t. n; not_below = h })

pub fine_end : (kept : Kept) (contents : List ℕ) → Fine kept tag_end contents → contents ≡ []
unfolding length_allowed
fine_end kept contents f = drop_of_length-le contents {i = 0} (omega (arith, eqb-true (length contents) 0 f.passes.sized))

pub end_fine : (kept : Kept) → 1 ≤ kept.tag → kept.tag ≤ tag_end → Fine kept tag_end []
unfolding known_tag length_allowed contents_fit not_above too_many
end_fine kept s t = record {
  tagged = behind_routers kept refl (omega arith) s t;
  passes = record { sized = refl; fits = refl };
  above = refl;
  few = refl;
}
