-- The section lemma: in a chain the records of one tag stand in a row; they say elements that fit, in strictly rising order of their keys, and the
-- records of higher tags follow. Whatever fits and rises so stands in such a row. Names and links are its instances (proofs/TableSections).
-- Assumes nothing.
use mathlib.Core.Path.{◌≡◌, refl, sym, ◌∙◌, ap}
use mathlib.Core.Logic.{◌≢◌}
use mathlib.Core.Bool.{true, false}
use mathlib.Core.List.{List, [], ◌∷◌, ◌++◌, map, flatten, append_assoc}
use Prim.Native.Nat.{ℕ, suc, ◌+◌, ◌-◌, ◌*◌, ◌≤◌, ◌<◌}
use native.Mathlib.Decide.{ℕ_discrete}
use native.Mathlib.Omega.{arith}
use lib.ListN.{length, length-append}
use borrow.Author.Tests.{eq-eqb, ne_eqb}
use Rattle.rules.specs.Words.{◌=?◌, those, All, Rising}
use Rattle.rules.specs.Layout.{Bytes, record_bytes, tag_routers, tag_link, tag_end}
use Rattle.rules.specs.Table.{Record, known_tag, key, Kept, keep, too_many}
use Rattle.rules.proofs.Basics.{All-map, All-parts}
use Rattle.rules.proofs.Records.{rising_tag, InOrder, tag_order, record_at, Passes, Fine, above_key, key_above, behind_routers, few_links, links_few}
use Rattle.rules.proofs.Chains.{Chain, last, next, bytes_of}

-- a section of a table: the records of one tag, each of which says one element
pub record Section (A : Type 0) : Type 1 where
  pub tag : ℕ
  -- what the contents of a record at a place say, and the contents that say it
  pub says : ℕ → List ℕ → A
  pub contents : A → List ℕ
  -- what orders the elements, and what is asked of each in a table of n routers
  pub key : A → ℕ
  pub Fits : ℕ → A → Type 0
  -- what the elements tell of the places of their records, which follow each other from this place on
  pub Placed : ℕ → List A → Type 0
  -- the most bytes that one record takes
  pub most : ℕ

-- what the section lemma asks of a section
pub record Lawful {A : Type 0} (S : Section A) : Type 0 where
  -- the tag stands between those of the routers and the end, and records of it stand in strictly rising order
  pub is_known : known_tag S.tag ≡ true
  pub in_range : (tag_routers < S.tag) × (S.tag < tag_end)
  pub ordered : rising_tag S.tag ≡ true
  -- a record that passes says an element that fits; where it is bytes it is what says this element
  pub reads : (n place : ℕ) (c : List ℕ) → Passes n S.tag c → S.Fits n (S.says place c)
  pub exact : (n place : ℕ) (c : List ℕ) → Passes n S.tag c → Bytes c → c ≡ S.contents (S.says place c)
  pub short : (n : ℕ) (c : List ℕ) → Passes n S.tag c → 3 + length c ≤ S.most
  pub keyed : (place : ℕ) (c : List ℕ) → key S.tag c ≡ S.key (S.says place c)
  pub placed_none : (place : ℕ) → S.Placed place []
  pub placed_on : (n place : ℕ) (c : List ℕ) (xs : List A) → Passes n S.tag c → S.Placed (place + 3 + length c) xs
      → S.Placed place (S.says place c ∷ xs)
  -- an element that fits is said by a record that passes, in bytes
  pub writes : (n : ℕ) (x : A) → S.Fits n x → Passes n S.tag (S.contents x)
  pub in_bytes : (n : ℕ) (x : A) → n ≤ 64 → S.Fits n x → Bytes (S.contents x)
  pub placed_off : (place : ℕ) (x : A) (xs : List A) → S.Placed place (x ∷ xs)
      → (S.says place (S.contents x) ≡ x) × S.Placed (place + 3 + length (S.contents x)) xs

-- the records of a tag
abbrev pub of_tag : ℕ → List Record → List Record
of_tag tag rs = those (λ r. r.tag =? tag) rs

-- the same with one more record in front: one of that tag, or another
with_own : (tag : ℕ) (r : Record) (rs : List Record) → r.tag ≡ tag → of_tag tag (r ∷ rs) ≡ r ∷ of_tag tag rs
unfolding those
with_own tag r rs e = rw (eq-eqb r.tag tag e)

with_other : (tag : ℕ) (r : Record) (rs : List Record) → r.tag ≢ tag → of_tag tag (r ∷ rs) ≡ of_tag tag rs
unfolding those
with_other tag r rs e = rw (ne_eqb r.tag tag e)

module _ {A : Type 0} (S : Section A) where
  -- what the records of the section say, and the bytes that say an element
  abbrev pub told : List Record → List A
  told rs = map (λ r. S.says r.place r.contents) (of_tag S.tag rs)

  abbrev pub bytes_for : A → List ℕ
  bytes_for x = record_bytes S.tag (S.contents x)

  -- elements that may follow what was kept, in records from this place on
  pub record Follow (kept : Kept) (place : ℕ) (xs : List A) : Type 0 where
    pub fit : All (S.Fits kept.routers) xs
    pub rise : Rising (map S.key xs)
    pub above : kept.tag ≡ S.tag → All (λ k. kept.last < k) (map S.key xs)
    pub few : (S.tag =? tag_link) ≡ true → length xs ≤ 256 - kept.links
    pub placed : S.Placed place xs

-- elements in a row: records say them, from this place on, and each may follow what was kept; where `Exact` holds each has the contents that say its own
pub data Row {A : Type 0} (S : Section A) (Exact : Type 0) : Kept → ℕ → List A → Type 0 where
  none : {kept : Kept} {place : ℕ} → Row S Exact kept place []
  one : {kept : Kept} {place : ℕ} {c : List ℕ} {x : A} {xs : List A} → Fine kept S.tag c → S.says place c ≡ x → (Exact → c ≡ S.contents x)
      → Row S Exact (keep kept (record_at place S.tag c)) (place + 3 + length c) xs → Row S Exact kept place (x ∷ xs)

module _ {A : Type 0} {S : Section A} {Exact : Type 0} where
  -- the records, and what is kept behind them, at which place
  abbrev pub own : {kept : Kept} {place : ℕ} {xs : List A} → Row S Exact kept place xs → List Record
  own none = []
  own (one {place = place} {c = c} f s e r) = record_at place S.tag c ∷ own r

  abbrev pub after : {kept : Kept} {place : ℕ} {xs : List A} → Row S Exact kept place xs → Kept
  after {kept} none = kept
  after (one f s e r) = after r

  abbrev pub on : {kept : Kept} {place : ℕ} {xs : List A} → Row S Exact kept place xs → ℕ
  on {place = place} none = place
  on (one f s e r) = on r

-- what a row in front of other records tells
pub record Tells {A : Type 0} {S : Section A} {Exact : Type 0} {kept : Kept} {place : ℕ} {xs : List A} (r : Row S Exact kept place xs) (rest : List Record)
    : Type 0 where
  -- its records say its elements, and nothing of other tags
  pub own_told : of_tag S.tag rest ≡ [] → told S (own r ++ rest) ≡ xs
  pub others : (tag : ℕ) → tag ≢ S.tag → of_tag tag (own r ++ rest) ≡ of_tag tag rest
  -- their bytes
  pub long : length (bytes_of (own r ++ rest)) ≤ S.most * length xs + length (bytes_of rest)
  pub laid : Exact → bytes_of (own r ++ rest) ≡ flatten (map (bytes_for S) xs) ++ bytes_of rest
  -- what is kept behind them
  pub same_routers : (after r).routers ≡ kept.routers
  pub same_links : (S.tag =? tag_link) ≡ false → (after r).links ≡ kept.links
  pub some_tag : 1 ≤ (after r).tag
  pub not_above : (after r).tag ≤ S.tag

-- records begin with a row, and then higher tags follow
pub record Split {A : Type 0} (S : Section A) (Exact : Type 0) (kept : Kept) (place : ℕ) (rs : List Record) : Type 0 where
  pub elements : List A
  pub row : Row S Exact kept place elements
  pub rest : List Record
  pub parts : rs ≡ own row ++ rest
  pub behind : Chain (suc S.tag) (after row) (on row) rest
  pub bytes : Exact → Bytes (bytes_of rest)

module _ {A : Type 0} (S : Section A) (L : Lawful S) where
  kept_routers : (kept : Kept) (place : ℕ) (c : List ℕ) → (keep kept (record_at place S.tag c)).routers ≡ kept.routers
  unfolding keep
  kept_routers kept place c = rw (ne_eqb S.tag tag_routers (λ q. omega (arith, L.in_range)))

  -- ---- a row tells

  module _ {Exact : Type 0} where
    -- its elements may follow what was kept
    pub row_follow : {kept : Kept} {place : ℕ} {xs : List A} → Row S Exact kept place xs → Follow S kept place xs
    unfolding keep too_many
    row_follow {place = place} none = record { fit = tt; rise = tt; above = λ e. tt; few = λ e. omega arith; placed = L.placed_none place }
    row_follow {kept} {place} (one {c = c} {x = x} {xs = xs} f s e r) =
        let h = row_follow r in
        let k : key S.tag c ≡ S.key x = L.keyed place c ∙ ap S.key s in
        let over : All (λ m. S.key x < m) (map S.key xs) = rw k at (h.above refl) in
        record {
          fit = (rw s at (L.reads kept.routers place c f.passes), rw (kept_routers kept place c) at h.fit);
          rise = (over, h.rise);
          above = λ t.
              let first : kept.last < S.key x = rw k at (above_key kept S.tag c L.ordered f.above t) in
              (first, All-map (λ m l. omega arith) (map S.key xs) over);
          few = few_links (S.tag =? tag_link) kept.links (length xs) f.few h.few;
          placed = rw s at (L.placed_on kept.routers place c xs f.passes h.placed);
        }

    pub row_tells : {kept : Kept} {place : ℕ} {xs : List A} (r : Row S Exact kept place xs) (rest : List Record)
        → 1 ≤ kept.tag → kept.tag ≤ S.tag → Tells r rest
    unfolding keep flatten record_bytes
    row_tells none rest s t = record {
      own_told = λ e. rw e;
      others = λ tag e. refl;
      long = omega arith;
      laid = λ b. refl;
      same_routers = refl;
      same_links = λ e. refl;
      some_tag = s;
      not_above = t;
    }
    row_tells {kept} {place} (one {c = c} f s e r) rest _ _ =
        let h = row_tells r rest (omega (arith, L.in_range)) (omega arith) in
        let here = record_at place S.tag c in
        record {
          own_told = λ n. rw (with_own S.tag here (own r ++ rest) refl, s, h.own_told n);
          others = λ tag d. with_other tag here (own r ++ rest) (λ q. d (sym q)) ∙ h.others tag d;
          long = omega (arith, h.long, L.short kept.routers c f.passes, length-append c (bytes_of (own r ++ rest)));
          laid = λ b. rw (h.laid b, append_assoc, e b);
          same_routers = h.same_routers ∙ kept_routers kept place c;
          same_links = λ q. h.same_links q ∙ rw q (omega arith);
          some_tag = h.some_tag;
          not_above = h.not_above;
        }

    -- with a chain behind it is a chain
    pub row_chain : {kept : Kept} {place low : ℕ} {xs : List A} (r : Row S Exact kept place xs) (rest : List Record)
        → low ≤ S.tag → ((low : ℕ) → low ≤ S.tag → Chain low (after r) (on r) rest) → Chain low kept place (own r ++ rest)
    row_chain none rest l c = c _ l
    row_chain (one f s e r) rest l c = next l (omega (arith, L.in_range)) f (row_chain r rest (omega arith) c)

    -- ---- a chain begins with a row

    split_none : {kept : Kept} {place : ℕ} {rs : List Record} → (Exact → Bytes (bytes_of rs)) → Chain (suc S.tag) kept place rs → Split S Exact kept place rs
    split_none {rs = rs} b c = record { elements = []; row = none; rest = rs; parts = refl; behind = c; bytes = b }

    split_one : (kept : Kept) (place : ℕ) (c : List ℕ) (rs : List Record) → (Exact → Bytes c) → Fine kept S.tag c
        → Split S Exact (keep kept (record_at place S.tag c)) (place + 3 + length c) rs → Split S Exact kept place (record_at place S.tag c ∷ rs)
    split_one kept place c rs b f h = record {
      elements = S.says place c ∷ h.elements;
      row = one f refl (λ x. L.exact kept.routers place c f.passes (b x)) h.row;
      rest = h.rest;
      parts = ap (λ (l : List Record). record_at place S.tag c ∷ l) h.parts;
      behind = h.behind;
      bytes = h.bytes;
    }

    -- no lower tag may follow; where `Exact` holds the records are bytes
    pub splits : {low place : ℕ} {kept : Kept} {rs : List Record} → (Exact → Bytes (bytes_of rs)) → Chain low kept place rs
        → ((tag : ℕ) → InOrder kept tag → tag ≢ tag_end → low ≤ tag → S.tag ≤ tag) → Split S Exact kept place rs
    unfolding record_bytes
    splits b (last e f) h = split_none b (last e f)
    splits {kept = kept} b (next {place = place} {tag = tag} {contents = c} {rs = rs} l e f r) h =
        elim (ℕ_discrete tag S.tag) [
          | yes q ↦ own_first tag q f (splits (λ x. (bytes x).1) r (λ t o n m. omega arith))
          | no q ↦ split_none b (next {low = suc S.tag} {tag = tag} (omega (arith, h tag (tag_order kept tag f.tagged) e l)) e f r)
        ]
      where
        bytes : Exact → Bytes (record_bytes tag c) × Bytes (bytes_of rs)
        bytes x = All-parts (λ c. c < 256) (record_bytes tag c) (bytes_of rs) (b x)

        own_first : (tag : ℕ) → tag ≡ S.tag → Fine kept tag c → Split S Exact (keep kept (record_at place tag c)) (place + 3 + length c) rs
            → Split S Exact kept place (record_at place tag c ∷ rs)
        own_first tag q = rw q (split_one kept place c rs (λ x. (bytes x).0.1.1.1))

  -- ---- elements that may follow stand in a row

  pub builds : (kept : Kept) (place : ℕ) (xs : List A) → 1 ≤ kept.tag → kept.tag ≤ S.tag → Follow S kept place xs → Row S (Unit {0}) kept place xs
  unfolding keep too_many
  builds kept place [] s t h = none
  builds kept place (x ∷ xs) s t h =
      let c = S.contents x in
      let (is, on) = L.placed_off place x xs h.placed in
      let k : key S.tag c ≡ S.key x = L.keyed place c ∙ ap S.key is in
      let (room, more) = links_few (S.tag =? tag_link) kept.links (length xs) h.few in
      one (record {
        tagged = behind_routers kept L.is_known (omega (arith, L.in_range)) s t;
        passes = L.writes kept.routers x h.fit.0;
        above = key_above kept S.tag c (λ e. rw k (h.above e).0);
        few = room;
      }) is (λ e. refl)
      (builds (keep kept (record_at place S.tag c)) (place + 3 + length c) xs (omega (arith, L.in_range)) (omega arith) (record {
        fit = rw (kept_routers kept place c) h.fit.1;
        rise = h.rise.1;
        above = λ e. rw k h.rise.0;
        few = more;
        placed = on;
      }))
