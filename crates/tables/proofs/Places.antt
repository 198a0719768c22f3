-- Where the links of a table start, and where the table ends.
-- Assumes nothing.
use mathlib.Core.Path.{◌≡◌, refl, ◌∙◌, ap}
use mathlib.Core.Logic.{◌≢◌}
use mathlib.Core.List.{List, [], ◌∷◌}
use Prim.Native.Nat.{ℕ, ◌+◌, ◌*◌, ◌≤◌, ◌<◌}
use native.Mathlib.Decide.{ℕ_discrete}
use native.Mathlib.Omega.{arith}
use lib.ListN.{length, length-append}
use borrow.Author.Tests.{le-ltb, lt-ltb, ne_eqb, eq-eqb}
use Rattle.rules.specs.Words.{those}
use Rattle.rules.specs.Layout.{tag_link, tag_end, record_bytes}
use Rattle.rules.specs.Table.{Record, link_of, Kept, accepted, judge, table_of}
use Rattle.rules.proofs.Records.{at_most_link, tag_order, record_at, Fine}
use Rattle.rules.proofs.Chains.{Chain, last, next, bytes_of, judged_chain}
use Rattle.tables.specs.Readings.{links_place}
use Rattle.records.proofs.Tests.{link_long, end_long}

-- the links start where the first record behind those of lower tags stands
pub links_here : (r : Record) (rs : List Record) → tag_link ≤ r.tag → links_place (r ∷ rs) ≡ r.place
unfolding links_place
links_here r rs h = rw (le-ltb r.tag tag_link h)

pub links_later : (r : Record) (rs : List Record) → r.tag < tag_link → links_place (r ∷ rs) ≡ links_place rs
unfolding links_place
links_later r rs h = rw (lt-ltb r.tag tag_link h)

-- the links, with one record more in front
pub more_links : (r : Record) (rs : List Record) → r.tag ≡ tag_link → (table_of (r ∷ rs)).links ≡ link_of r.contents ∷ (table_of rs).links
unfolding table_of those
more_links r rs e = rw (eq-eqb r.tag tag_link e)

pub same_links : (r : Record) (rs : List Record) → r.tag ≢ tag_link → (table_of (r ∷ rs)).links ≡ (table_of rs).links
unfolding table_of those
same_links r rs e = rw (ne_eqb r.tag tag_link e)

pub no_links : (table_of []).links ≡ []
unfolding table_of those
no_links = refl

-- behind a link the links go on at once, or the table ends
pub starts : {low place : ℕ} {kept : Kept} {rs : List Record} → Chain low kept place rs → tag_link ≤ low → links_place rs ≡ place
starts (last {place = place} {tag = tag} {contents = c} e f) h = links_here (record_at place tag c) [] (omega arith)
starts (next {place = place} {tag = tag} {contents = c} {rs = rs} l e f r) h = links_here (record_at place tag c) rs (omega arith)

-- a record in front of the links
pub lower : (kept : Kept) (tag : ℕ) (c : List ℕ) → Fine kept tag c → tag ≢ tag_link → tag ≢ tag_end → tag < tag_link
lower kept tag c f l e = omega (arith, at_most_link tag (tag_order kept tag f.tagged).is_known e)

-- a table ends three bytes behind its links, each of which takes seven
pub ends : {low place : ℕ} {kept : Kept} {rs : List Record} → Chain low kept place rs
    → links_place rs + 7 * length (table_of rs).links + 3 ≡ place + length (bytes_of rs)
unfolding record_bytes
ends (last {place = place} {tag = tag} {contents = c} e f) =
    let r = record_at place tag c in
    omega (
      arith,
      links_here r [] (omega arith),
      ap length (same_links r [] (omega arith) ∙ no_links),
      length-append c [],
      end_long tag (length c) f.passes.sized e,
    )
ends {kept = kept} (next {place = place} {tag = tag} {contents = c} {rs = rs} l e f n) =
    let r = record_at place tag c in
    let h = ends n in
    elim (ℕ_discrete tag tag_link) [
      | yes q ↦
          omega (
            arith,
            starts n (omega arith),
            links_here r rs (omega arith),
            ap length (more_links r rs q),
            link_long tag (length c) f.passes.sized q,
            length-append c (bytes_of rs),
          )
      | no q ↦ omega (arith, links_later r rs (lower kept tag c f q e), ap length (same_links r rs q), length-append c (bytes_of rs))
    ]

pub judged_ends : (bytes : List ℕ) (rs : List Record) (end : ℕ) → judge bytes ≡ accepted rs end → links_place rs + 7 * length (table_of rs).links + 3 ≡ end
judged_ends bytes rs end e = let h = judged_chain bytes rs end e in omega (arith, h.ended, ends h.chain)
