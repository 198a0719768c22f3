-- The records of a whole table in order, and what they tell; and reading: what accepted bytes say obeys the rules of the layout, and the bytes are its
-- records in order.
-- Assumes nothing.
use mathlib.Core.Path.{◌≡◌, refl, ◌∙◌, ap, subst}
use mathlib.Core.List.{List, [], ◌∷◌, ◌++◌, append_assoc}
use Prim.Native.Nat.{ℕ, suc, ◌+◌, ◌*◌, ◌≤◌, ◌<◌}
use native.Mathlib.Omega.{arith}
use lib.ListN.{length}
use Rattle.rules.specs.Words.{those}
use Rattle.rules.specs.Layout.{Bytes, Table, Obeys, tag_routers, tag_name, tag_link, tag_end, record_bytes, name_bytes, link_bytes, written}
use Rattle.rules.specs.Table.{byte, Record, Kept, nothing_kept, keep, read, number_of, routers_of, table_of, says}
use Rattle.rules.proofs.Basics.{All-parts}
use Rattle.rules.proofs.Records.{at_most_link, link_next, tag_order, record_at, Fine, fine_routers, routers_fine, fine_end, end_fine}
use Rattle.rules.proofs.Chains.{Chain, last, next, bytes_of, accepted_as}
use Rattle.rules.proofs.Sections.{Row, own, after, on, Tells, row_follow, row_tells, row_chain, Split, splits}
use Rattle.rules.proofs.TableSections.{names, names_lawful, links, links_lawful}

-- ---- the records of a table

abbrev pub routers_record : ℕ → Record
routers_record n = record_at 0 tag_routers (n ∷ [])

-- the routers record, a row of names, a row of links, the end record
pub record Whole (Exact : Type 0) (rs : List Record) (t : Table) : Type 0 where
  pub some_routers : 1 ≤ t.routers
  pub few_routers : t.routers ≤ 64
  pub names_row : Row names Exact (keep nothing_kept (routers_record t.routers)) 4 t.names
  pub links_row : Row links Exact (after names_row) (on names_row) t.links
  pub are : rs ≡ routers_record t.routers ∷ own names_row ++ (own links_row ++ (record_at (on links_row) tag_end [] ∷ []))

module _ {Exact : Type 0} {rs : List Record} {t : Table} (o : Whole Exact rs t) where
  abbrev the_end : List Record
  the_end = record_at (on o.links_row) tag_end [] ∷ []

  by_names : Tells o.names_row (own o.links_row ++ the_end)
  unfolding keep
  by_names = row_tells names names_lawful o.names_row (own o.links_row ++ the_end) (omega arith) (omega arith)

  by_links : Tells o.links_row the_end
  by_links = row_tells links links_lawful o.links_row the_end by_names.some_tag (omega (arith, by_names.not_above))

  -- they say the table, which obeys the rules
  pub their_table : table_of rs ≡ t
  unfolding table_of those routers_of
  their_table =
      rw (o.are, by_names.own_told (by_links.others tag_name (omega arith)), by_names.others tag_link (omega arith), by_links.own_told refl)

  pub their_rules : Obeys t
  unfolding keep
  their_rules =
      let n = row_follow names names_lawful o.names_row in
      let l = row_follow links links_lawful o.links_row in
      record {
        some_routers = o.some_routers;
        few_routers = o.few_routers;
        names_fit = n.fit;
        names_rise = n.rise;
        names_placed = n.placed;
        links_fit = rw by_names.same_routers at l.fit;
        links_rise = l.rise;
        few_links = omega (arith, l.few refl);
      }

  -- their bytes
  pub their_bytes : Exact → bytes_of rs ≡ written t
  unfolding written record_bytes name_bytes link_bytes
  their_bytes b = rw (o.are, by_names.laid b, by_links.laid b, append_assoc)

  pub their_length : length (bytes_of rs) ≤ 4 + names.most * length t.names + links.most * length t.links + 3
  unfolding record_bytes
  their_length = omega (arith, ap (λ rs. length (bytes_of rs)) o.are, by_names.long, by_links.long)

  -- each may follow those before it
  pub links_chain : (low : ℕ) → low ≤ tag_link → Chain low (after o.names_row) (on o.names_row) (own o.links_row ++ the_end)
  links_chain low h =
      row_chain links links_lawful o.links_row the_end h (λ low l.
      last refl (end_fine (after o.links_row) by_links.some_tag (omega (arith, by_links.not_above))))

  pub their_chain : Chain 0 nothing_kept 0 rs
  their_chain =
      rw o.are (next {low = 0} {place = 0} {tag = tag_routers} (omega arith) (omega arith)
      (routers_fine nothing_kept t.routers refl o.some_routers o.few_routers)
      (row_chain names names_lawful o.names_row (own o.links_row ++ the_end) (omega arith) (λ low l. links_chain low (omega arith))))

-- ---- a chain is the records of a table

only_end : {place : ℕ} {kept : Kept} {rs : List Record} → Chain (suc tag_link) kept place rs → rs ≡ record_at place tag_end [] ∷ []
only_end {place} {kept} (last {tag = tag} {contents = contents} e f) = go tag e f
  where
    go : (tag : ℕ) → tag ≡ tag_end → Fine kept tag contents → record_at place tag contents ∷ [] ≡ record_at place tag_end [] ∷ []
    go tag e = rw e λ f. ap (λ (c : List ℕ). record_at place tag_end c ∷ []) (fine_end kept contents f)
only_end {kept = kept} (next {tag = tag} l e f c) =
    absurd (omega (arith, at_most_link tag (tag_order kept tag f.tagged).is_known e))

module _ {Exact : Type 0} (rs : List Record) (b : Exact → Bytes (bytes_of rs)) where
  behind_routers : (n : ℕ) → 1 ≤ n → n ≤ 64 → Chain tag_routers (keep nothing_kept (routers_record n)) 4 rs
      → (t : Table) × Whole Exact (routers_record n ∷ rs) t
  unfolding keep
  behind_routers n some few c = (
    record { routers = n; names = ns.elements; links = ls.elements },
    record {
      some_routers = some;
      few_routers = few;
      names_row = ns.row;
      links_row = ls.row;
      are =
          ap (λ (l : List Record). routers_record n ∷ l)
          (ns.parts ∙ ap (λ (l : List Record). own ns.row ++ l) (ls.parts ∙ ap (λ (l : List Record). own ls.row ++ l) (only_end ls.behind)));
    },
  )
    where
      ns : Split names Exact (keep nothing_kept (routers_record n)) 4 rs
      ns = splits names names_lawful b c (λ tag o e l. omega (arith, o.no_second (omega arith)))

      ls : Split links Exact (after ns.row) (on ns.row) ns.rest
      ls = splits links links_lawful ns.bytes ns.behind (λ tag o e l. link_next tag o.is_known l)

pub whole : {Exact : Type 0} {low : ℕ} {rs : List Record} → (Exact → Bytes (bytes_of rs)) → Chain low nothing_kept 0 rs → (t : Table) × Whole Exact rs t
whole b (last {tag = tag} e f) = absurd (omega (arith, (tag_order nothing_kept tag f.tagged).first_routers refl))
whole {Exact} b (next {tag = tag} {contents = contents} {rs = rs} l e f c) =
    let first = (tag_order nothing_kept tag f.tagged).first_routers refl in
    let (is, some, few) = fine_routers nothing_kept contents (rw first at f) in
    go tag (byte contents 0) contents first is some few c b
  where
    go : (tag n : ℕ) (c : List ℕ) → tag ≡ tag_routers → c ≡ n ∷ [] → 1 ≤ n → n ≤ 64 → Chain tag (keep nothing_kept (record_at 0 tag c)) (3 + length c) rs
        → (Exact → Bytes (record_bytes tag c ++ bytes_of rs)) → (t : Table) × Whole Exact (record_at 0 tag c ∷ rs) t
    go tag n c p q some few =
        rw (p, q) λ c b. behind_routers rs (λ x. (All-parts (λ c. c < 256) (record_bytes tag_routers (n ∷ [])) (bytes_of rs) (b x)).1) n some few c

-- accepted bytes say what obeys the rules, and are what it is written as
pub accepted_whole : (bytes : List ℕ) → number_of (read bytes) ≡ 0 → Obeys (says bytes) × (Bytes bytes → bytes ≡ written (says bytes))
unfolding says
accepted_whole bytes e =
    let a = accepted_as bytes e in
    let (t, o) = whole (subst Bytes a.laid) a.chain in
    rw (a.read_so, their_table o) (their_rules o, λ b. a.laid ∙ their_bytes o b)
