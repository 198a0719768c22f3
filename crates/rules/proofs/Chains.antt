-- Judging as a chain of records: accepted bytes are the bytes of records of which each may follow those before it, and such bytes are accepted.
-- Assumes nothing.
use mathlib.Core.Path.{◌≡◌, ◌∙◌, ap, subst}
use mathlib.Core.Logic.{◌≢◌}
use mathlib.Core.List.{List, [], ◌∷◌, ◌++◌, append_assoc, append-nil}
use Prim.Native.Nat.{ℕ, suc, ◌+◌, ◌≤◌}
use native.Mathlib.Omega.{arith}
use lib.ListN.{length, drop, length-append, drop_of_length-le}
use borrow.Author.Tests.{le-ltb}
use Rattle.rules.specs.Layout.{tag_end, record_bytes}
use Rattle.rules.specs.Table.{byte, Record, Kept, nothing_kept, keep, record_in, Judged, accepted, refused, followed_by, judge, nothing_behind, read, number_of}
use Rattle.rules.proofs.Basics.{pick_f}
use Rattle.rules.proofs.Refusals.{JudgedWhole, judged_whole}
use Rattle.rules.proofs.Judging.{size_in, contents_in, Judges, stops, ends, goes, judge_judges, judged}
use Rattle.rules.proofs.Records.{tag_order, record_at, Fine, length_contents, good_fine, good_bytes, read_size, read_contents, read_rest, fine_good}

-- records from this place on, of which each may follow what was kept of those before it, up to the end record; no tag is below `low`
pub data Chain : ℕ → Kept → ℕ → List Record → Type 0 where
  last : {low place tag : ℕ} {kept : Kept} {contents : List ℕ} → tag ≡ tag_end → Fine kept tag contents
      → Chain low kept place (record_at place tag contents ∷ [])
  next : {low place tag : ℕ} {kept : Kept} {contents : List ℕ} {rs : List Record} → low ≤ tag → tag ≢ tag_end → Fine kept tag contents
      → Chain tag (keep kept (record_at place tag contents)) (place + 3 + length contents) rs
      → Chain low kept place (record_at place tag contents ∷ rs)

-- their bytes
abbrev pub bytes_of : List Record → List ℕ
bytes_of [] = []
bytes_of (r ∷ rs) = record_bytes r.tag r.contents ++ bytes_of rs

-- ---- what is accepted is a chain

-- the bytes that remain are those of a chain, and others may follow
pub record Chained (kept : Kept) (place : ℕ) (left : List ℕ) (rs : List Record) (end : ℕ) : Type 0 where
  pub chain : Chain kept.tag kept place rs
  pub rest : List ℕ
  pub laid : left ≡ bytes_of rs ++ rest
  pub ended : end ≡ place + length (bytes_of rs)

abbrev Chains : Kept → ℕ → List ℕ → Judged → Type 0
Chains kept place left (accepted rs end) = Chained kept place left rs end
Chains kept place left (refused number at) = Unit {0}

chained : {kept : Kept} {place : ℕ} {left : List ℕ} {j : Judged} → Judges kept place left j → Chains kept place left j
unfolding keep record_bytes
chained (stops q a b) = tt
chained {kept} {place} {left} (ends g e) = record {
  chain = last e (good_fine kept left g);
  rest = drop (3 + size_in left) left;
  laid = good_bytes kept left g ∙ rw (append-nil (contents_in left));
  ended = omega (arith, length_contents kept left g, length-append (contents_in left) []);
}
chained {kept} {place} {left} (goes {j = j} g e r) = go j (chained r)
  where
    go : (j : Judged) → Chains (keep kept (record_in place left)) (place + 3 + size_in left) (drop (3 + size_in left) left) j
        → Chains kept place left (followed_by (record_in place left) j)
    go (refused number at) h = tt
    go (accepted rs end) h = record {
      chain =
          next {place = place} {rs = rs} (tag_order kept (byte left 0) g.tagged).not_below e (good_fine kept left g)
          (rw (length_contents kept left g) h.chain);
      rest = h.rest;
      laid = good_bytes kept left g ∙ rw (h.laid, append_assoc);
      ended = omega (arith, h.ended, length_contents kept left g, length-append (contents_in left) (bytes_of rs));
    }

pub judged_chain : (bytes : List ℕ) (rs : List Record) (end : ℕ) → judge bytes ≡ accepted rs end → Chained nothing_kept 0 bytes rs end
judged_chain bytes rs end e = subst (Chains nothing_kept 0 bytes) e (chained (judge_judges bytes))

-- the records of accepted bytes
pub record AcceptedAs (bytes : List ℕ) : Type 0 where
  pub records : List Record
  pub end : ℕ
  pub read_so : read bytes ≡ accepted records end
  pub chain : Chain 0 nothing_kept 0 records
  pub laid : bytes ≡ bytes_of records

pub accepted_as : (bytes : List ℕ) → number_of (read bytes) ≡ 0 → AcceptedAs bytes
accepted_as bytes e = record { records = w.records; end = w.end; read_so = w.read_so; chain = h.chain; laid = h.laid ∙ rw none (append-nil _) }
  where
    w : JudgedWhole bytes
    w = judged_whole bytes e

    h : Chained nothing_kept 0 bytes w.records w.end
    h = judged_chain bytes w.records w.end w.judged_so

    none : h.rest ≡ []
    none =
        drop_of_length-le h.rest {i = 0} (omega (arith, w.to_end, h.ended, ap length h.laid, length-append (bytes_of w.records) h.rest))

-- ---- a chain is accepted

chain_judged : {low place : ℕ} {kept : Kept} {rs : List Record} → Chain low kept place rs
    → Judges kept place (bytes_of rs) (accepted rs (place + length (bytes_of rs)))
unfolding record_bytes
chain_judged (last {place = place} {tag = tag} {kept = kept} {contents = c} e f) =
    let B = record_bytes tag c ++ [] in
    let end : place + 3 + size_in B ≡ place + length B = omega (arith, read_size tag c [], length-append c []) in
    subst (Judges kept place B) (rw (read_contents tag c [], end)) (ends (fine_good tag c [] kept f) e)
chain_judged (next {place = place} {tag = tag} {kept = kept} {contents = c} {rs = rs} l e f n) =
    let B = record_bytes tag c ++ bytes_of rs in
    let end : place + length B ≡ place + 3 + length c + length (bytes_of rs) = omega (arith, length-append c (bytes_of rs)) in
    rw end (subst (Judges kept place B) (rw (read_contents tag c (bytes_of rs)))
    (goes {place = place} {j = accepted rs (place + 3 + length c + length (bytes_of rs))} (fine_good tag c (bytes_of rs) kept f) e
    (rw (read_contents tag c (bytes_of rs), read_rest tag c (bytes_of rs), read_size tag c (bytes_of rs)) (chain_judged n))))

pub chain_read : {rs : List Record} → Chain 0 nothing_kept 0 rs → read (bytes_of rs) ≡ accepted rs (0 + length (bytes_of rs))
unfolding read judge
chain_read {rs} c =
    ap (nothing_behind (length (bytes_of rs))) (judged (chain_judged c) (suc (length (bytes_of rs))) (omega arith))
    ∙ pick_f _ _ _ (le-ltb (0 + length (bytes_of rs)) (length (bytes_of rs)) (omega arith))
