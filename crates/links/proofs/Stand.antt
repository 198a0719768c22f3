-- The links that stand in a table, one behind the other.
-- Assumes nothing.
use mathlib.Core.Path.{◌≡◌, refl, sym, ◌∙◌, ap, subst, subst₂}
use mathlib.Core.Logic.{◌≢◌}
use mathlib.Core.List.{List, [], ◌∷◌, ◌++◌}
use Prim.Native.Nat.{ℕ, zero, suc, ◌+◌, ◌*◌, ◌≤◌, ◌<◌}
use native.Mathlib.Decide.{ℕ_discrete, dec_le, dec_lt}
use native.Mathlib.Omega.{arith}
use lib.ListN.{length, drop, get_or-append}
use borrow.Author.Tests.{lt-ltb, le-ltb, eq-eqb, ne_eqb}
use Rattle.rules.specs.Words.{those}
use Rattle.rules.specs.Layout.{Link, tag_link, record_bytes}
use Rattle.rules.specs.Table.{byte, Record, link_of, Kept, Judged, accepted, refused, read, number_of, records_of, table_of, says}
use Rattle.rules.specs.Demand1.{IsAccepted}
use Rattle.rules.specs.LinkQuestion.{no_more, link_in, link_answer}
use Rattle.rules.proofs.Basics.{pick_t, pick_f}
use Rattle.rules.proofs.Records.{record_at, Fine}
use Rattle.rules.proofs.AtPlace.{tag_at, size_at, contents_at, rest_at, within}
use Rattle.rules.proofs.Chains.{Chain, last, next, bytes_of, accepted_as}
use Rattle.links.specs.Links.{link_at, behind, reader_start, LinksByNumber}
use Rattle.records.proofs.Tests.{link_long}
use Rattle.tables.specs.Readings.{links_place, links_start}
use Rattle.tables.proofs.Places.{links_here, links_later, more_links, same_links, no_links, starts, lower, ends}
use Rattle.links.proofs.Place.{there, cut, other, at_none, at_one, behind_one, behind_none}

-- ---- the links of an accepted table

-- these links stand one behind the other from a place on, and then no link
pub data Stand (bytes : List ℕ) : ℕ → List Link → Type 0 where
  none : {place : ℕ} → link_at bytes place ≡ no_more → Stand bytes place []
  one : {place : ℕ} {l : Link} {ls : List Link} → link_at bytes place ≡ record { more = 1; link = l } → Stand bytes (place + 7) ls
      → Stand bytes place (l ∷ ls)

-- a link is settled by four bytes
link_part : (c rest : List ℕ) → length c ≡ 4 → link_of (c ++ rest) ≡ link_of c
link_part c rest h = λ i. record { a = at 0 (omega arith) i; b = at 1 (omega arith) i; weight = at 2 (omega arith) i * 256 + at 3 (omega arith) i }
  where
    at : (k : ℕ) → k < length c → byte (c ++ rest) k ≡ byte c k
    at k = get_or-append c rest 0 k

module _ (bytes : List ℕ) where
  -- a link's record whose bytes stand here
  link_here : (kept : Kept) (place tag : ℕ) (c rest : List ℕ) → record_bytes tag c ++ rest ≡ drop place bytes → Fine kept tag c → tag ≡ tag_link
      → link_at bytes place ≡ record { more = 1; link = link_of c }
  link_here kept place tag c rest q f t =
      let four = link_long tag (length c) f.passes.sized t in
      at_one bytes place (
      there bytes place (length c) (sym (size_at bytes place tag c rest q)) (omega (arith, within bytes place tag c rest q))
      (tag_at bytes place tag c rest q ∙ t) four
      )
      ∙ ap (λ l. record { more = 1; link = l }) (ap link_of (sym (contents_at bytes place tag c rest q)) ∙ link_part c rest four)

  -- the links of a chain whose bytes stand here
  all_stand : {low place : ℕ} {kept : Kept} {rs : List Record} → Chain low kept place rs → bytes_of rs ≡ drop place bytes
      → Stand bytes (links_place rs) (table_of rs).links
  all_stand (last {place = place} {tag = tag} {contents = c} e f) q =
      let r = record_at place tag c in
      subst₂ (Stand bytes) (sym (links_here r [] (omega arith))) (sym (same_links r [] (omega arith) ∙ no_links))
      (none (at_none bytes place (other bytes place (omega (arith, tag_at bytes place tag c [] q)))))
  all_stand {kept = kept} (next {place = place} {tag = tag} {contents = c} {rs = rs} l e f n) q =
      let r = record_at place tag c in
      let h = all_stand n (rest_at bytes place tag c (bytes_of rs) q) in
      elim (ℕ_discrete tag tag_link) [
        | yes t ↦
            let further : links_place rs ≡ place + 7 = starts n (omega arith) ∙ omega (arith, link_long tag (length c) f.passes.sized t) in
            subst₂ (Stand bytes) (sym (links_here r rs (omega arith))) (sym (more_links r rs t))
            (one (link_here kept place tag c (bytes_of rs) q f t) (subst (λ n. Stand bytes n (table_of rs).links) further h))
        | no t ↦ subst₂ (Stand bytes) (sym (links_later r rs (lower kept tag c f t e))) (sym (same_links r rs t)) h
      ]

-- they stand one behind the other, and the end record behind them
module _ (bytes : List ℕ) (e : IsAccepted bytes) where
  pub links_stand : Stand bytes (links_start bytes) (says bytes).links
  unfolding links_start says
  links_stand = let a = accepted_as bytes e in rw a.read_so (all_stand bytes a.chain (sym a.laid))

  links_end : links_start bytes + 7 * length (says bytes).links + 3 ≡ length bytes
  unfolding links_start says
  links_end = let a = accepted_as bytes e in rw a.read_so (omega (arith, ends a.chain, ap length a.laid))

-- ---- a reader's links

-- a refused table has no links
pub none_of_refused : (bytes : List ℕ) → number_of (read bytes) ≢ 0 → (says bytes).links ≡ []
unfolding says table_of those
none_of_refused bytes = go (read bytes) refl
  where
    go : (j : Judged) → read bytes ≡ j → number_of (read bytes) ≢ 0 → (table_of (records_of (read bytes))).links ≡ []
    go (accepted rs end) j e = absurd (e (ap number_of j))
    go (refused number at) j e = rw j

-- where a reader starts
module _ (bytes : List ℕ) where
  pub start_of_accepted : IsAccepted bytes → reader_start bytes ≡ links_start bytes
  unfolding reader_start
  start_of_accepted e = pick_t _ _ _ (eq-eqb _ 0 e)

  pub start_of_refused : number_of (read bytes) ≢ 0 → reader_start bytes ≡ length bytes
  unfolding reader_start
  start_of_refused e = pick_f _ _ _ (ne_eqb _ 0 e)

  -- the table's links stand from there on
  pub reader_stands : Stand bytes (reader_start bytes) (says bytes).links
  reader_stands = go (ℕ_discrete (number_of (read bytes)) 0)
    where
      go : Dec (IsAccepted bytes) → Stand bytes (reader_start bytes) (says bytes).links
      go (yes e) = rw (start_of_accepted e) (links_stand bytes e)
      go (no e) =
          subst₂ (Stand bytes) (sym (start_of_refused e)) (sym (none_of_refused bytes e))
          (none (at_none bytes (length bytes) (cut bytes (length bytes) (omega arith))))

-- ---- the answers of a list of links

-- the first, and those behind it
first_in : (l : Link) (ls : List Link) → link_in (l ∷ ls) 0 ≡ record { more = 1; link = l }
unfolding link_in
first_in l ls = pick_t _ _ _ (lt-ltb 0 (suc (length ls)) (omega arith))

later_in : (l : Link) (ls : List Link) (i : ℕ) → link_in (l ∷ ls) (suc i) ≡ link_in ls i
unfolding link_in
later_in l ls i = go (dec_lt i (length ls))
  where
    go : Dec (i < length ls) → link_in (l ∷ ls) (suc i) ≡ link_in ls i
    go (yes h) = pick_t _ _ _ (lt-ltb (suc i) (suc (length ls)) (omega arith)) ∙ sym (pick_t _ _ _ (lt-ltb i (length ls) h))
    go (no h) = pick_f _ _ _ (le-ltb (suc i) (suc (length ls)) (omega arith)) ∙ sym (pick_f _ _ _ (le-ltb i (length ls) (omega arith)))

-- behind the last there is none
pub none_in : (ls : List Link) (i : ℕ) → length ls ≤ i → link_in ls i ≡ no_more
unfolding link_in
none_in ls i h = pick_f _ _ _ (le-ltb i (length ls) h)

-- the first of those from link k on
pub in_later : (k : ℕ) (ls : List Link) → link_in (drop k ls) 0 ≡ link_in ls k
in_later zero ls = refl
in_later (suc k) [] = none_in [] 0 (omega arith) ∙ sym (none_in [] (suc k) (omega arith))
in_later (suc k) (l ∷ ls) = in_later k ls ∙ sym (later_in l ls k)

-- the first of the links that stand, and those that stand behind it
pub stand_first : {bytes : List ℕ} {place : ℕ} {ls : List Link} → Stand bytes place ls → link_at bytes place ≡ link_in ls 0
stand_first (none e) = e ∙ sym (none_in [] 0 (omega arith))
stand_first (one {l = l} {ls = ls} e s) = e ∙ sym (first_in l ls)

pub stand_behind : {bytes : List ℕ} {place : ℕ} {ls : List Link} → Stand bytes place ls → Stand bytes (behind bytes place) (drop 1 ls)
stand_behind {bytes} {place} (none e) = rw (behind_none bytes place e) (none e)
stand_behind {bytes} {place} (one {l = l} e s) = rw (behind_one bytes place l e) s

-- ---- links by number

-- link i, at the fixed stride, of those that stand from a place on
stand_at : {bytes : List ℕ} {place : ℕ} {ls : List Link} → Stand bytes place ls → (i : ℕ) → i ≤ length ls
    → link_at bytes (place + 7 * i) ≡ link_in ls i
stand_at {bytes} (none e) i h = ap (link_at bytes) (omega arith) ∙ e ∙ sym (none_in [] i (omega arith))
stand_at {bytes} (one {l = l} {ls = ls} e s) zero h = ap (link_at bytes) (omega arith) ∙ e ∙ sym (first_in l ls)
stand_at {bytes} {place} (one {l = l} {ls = ls} e s) (suc i) h =
    let further : place + 7 * suc i ≡ place + 7 + 7 * i = omega arith in
    ap (link_at bytes) further ∙ stand_at s i (omega arith) ∙ sym (later_in l ls i)

pub link_by_number : LinksByNumber
unfolding link_answer
link_by_number bytes e i = go (dec_le i (length (says bytes).links))
  where
    go : Dec (i ≤ length (says bytes).links) → link_at bytes (links_start bytes + 7 * i) ≡ link_in (says bytes).links i
    go (yes h) = stand_at (links_stand bytes e) i h
    go (no h) =
        at_none bytes (links_start bytes + 7 * i) (cut bytes (links_start bytes + 7 * i) (omega (arith, links_end bytes e)))
        ∙ sym (none_in (says bytes).links i (omega arith))
