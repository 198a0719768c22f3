-- Tables are accepted exactly by the layout, whatever obeys its rules can be written, and contents and bytes settle each other.
-- Assumes nothing.
use mathlib.Core.Path.{◌≡◌, refl, sym, ◌∙◌, ap, subst}
use mathlib.Core.Bool.{false≢true}
use mathlib.Core.List.{List, [], ◌∷◌, ◌++◌, map, flatten, append_assoc}
use Prim.Native.Nat.{ℕ, ◌≤◌, ◌<◌}
use native.Mathlib.Omega.{arith}
use lib.ListN.{length}
use Rattle.rules.specs.Words.{All}
use Rattle.rules.specs.Layout.{Table, Bytes, Obeys, tag_end, record_bytes, name_bytes, link_bytes, written}
use Rattle.rules.specs.Table.{Record, nothing_kept, keep, read, number_of, records_of, table_of, says}
use Rattle.rules.specs.Demand1.{Accepted, AcceptedByLayout, Writable, ContentsSettle}
use Rattle.rules.proofs.Basics.{All-append}
use Rattle.rules.proofs.Records.{record_at, size_at_most}
use Rattle.rules.proofs.Chains.{chain_read}
use Rattle.rules.proofs.Sections.{Section, Lawful, bytes_for, Row, own, after, on, Tells, row_tells, builds}
use Rattle.rules.proofs.TableSections.{names, names_lawful, links, links_lawful}
use Rattle.rules.proofs.Reading.{routers_record, Whole, their_table, their_bytes, their_chain, accepted_whole}

-- what accepted bytes say obeys the rules
pub obeys : (bytes : List ℕ) → number_of (read bytes) ≡ 0 → Obeys (says bytes)
obeys bytes e = (accepted_whole bytes e).0

-- ---- what obeys the rules is accepted as it is written

-- its names and links stand in rows behind the routers
laid_out : (t : Table) → Obeys t → (rs : List Record) × Whole (Unit {0}) rs t
unfolding keep
laid_out t o = (
  routers_record t.routers ∷ own ns ++ (own ls ++ (record_at (on ls) tag_end [] ∷ [])),
  record { some_routers = o.some_routers; few_routers = o.few_routers; names_row = ns; links_row = ls; are = refl },
)
  where
    ns : Row names (Unit {0}) (keep nothing_kept (routers_record t.routers)) 4 t.names
    ns = builds names names_lawful _ 4 t.names (omega arith) (omega arith) (record {
      fit = o.names_fit;
      rise = o.names_rise;
      above = λ e. absurd (omega arith);
      few = λ e. absurd (false≢true e);
      placed = o.names_placed;
    })

    b : Tells ns []
    b = row_tells names names_lawful ns [] (omega arith) (omega arith)

    ls : Row links (Unit {0}) (after ns) (on ns) t.links
    ls = builds links links_lawful _ _ t.links b.some_tag (omega (arith, b.not_above)) (record {
      fit = rw b.same_routers o.links_fit;
      rise = o.links_rise;
      above = λ e. absurd (omega (arith, b.not_above));
      few = λ e. omega (arith, b.same_links refl, o.few_links);
      placed = tt;
    })

written_accepted : (t : Table) → Obeys t → Accepted (written t) t
unfolding says
written_accepted t obeyed =
    let (rs, o) = laid_out t obeyed in
    let is = ap read (sym (their_bytes o tt)) ∙ chain_read (their_chain o) in
    (ap number_of is, ap (λ j. table_of (records_of j)) is ∙ their_table o)

pub accepted_by_layout : AcceptedByLayout
accepted_by_layout bytes t b = (
  λ (n, s). let (o, w) = accepted_whole bytes n in (subst Obeys s o, w b ∙ ap written s),
  λ (o, e). rw e (written_accepted t o),
)

pub contents_settle : ContentsSettle
contents_settle bytes bytes' t t' b b' h h' = (
  λ e. sym h.1 ∙ ap says e ∙ h'.1,
  λ e. ((accepted_by_layout bytes t b).0 h).1 ∙ ap written e ∙ sym ((accepted_by_layout bytes' t' b').0 h').1,
)

-- ---- what is written is bytes

-- elements that fit, and the rest
in_bytes : {A : Type 0} (S : Section A) → Lawful S → (n : ℕ) → n ≤ 64 → (xs : List A) → All (S.Fits n) xs → (rest : List ℕ) → Bytes rest
    → Bytes (flatten (map (bytes_for S) xs) ++ rest)
unfolding flatten record_bytes
in_bytes S L n few [] h rest b = b
in_bytes S L n few (x ∷ xs) h rest b =
    let s = size_at_most S.tag (length (S.contents x)) (L.writes n x h.0).sized in
    let later = All-append (λ c. c < 256) (S.contents x) _ (L.in_bytes n x few h.0) (in_bytes S L n few xs h.1 rest b) in
    (omega (arith, L.in_range), (omega arith, (omega arith, rw (append_assoc (S.contents x) (flatten (map (bytes_for S) xs)) rest) later)))

pub writable : Writable
unfolding written record_bytes name_bytes link_bytes
writable t o =
    let ls = in_bytes links links_lawful t.routers o.few_routers t.links o.links_fit (record_bytes tag_end []) (omega arith) in
    let rest = flatten (map link_bytes t.links) ++ record_bytes tag_end [] in
    let ns = in_bytes names names_lawful t.routers o.few_routers t.names o.names_fit rest ls in
    rw (append_assoc (flatten (map name_bytes t.names)) (flatten (map link_bytes t.links)) (record_bytes tag_end []))
    (omega arith, (omega arith, (omega arith, (omega (arith, o.few_routers), ns))))
