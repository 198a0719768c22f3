-- Every promise of this crate allows one answer: two results, and two readers afterwards, that it allows are equal.
-- Assumes nothing.
use mathlib.Core.Path.{◌≡◌, refl, sym, ◌∙◌, ap}
use mathlib.Core.List.{List}
use Prim.Native.Nat.{ℕ, ◌+◌, ◌*◌}
use denote.Ref.{Bor}
use Rattle.std.specs.Prelude.{Option, Some, None}
use Rattle.rules.specs.Words.{◌=?◌, pick}
use Rattle.rules.specs.LinkQuestion.{NextLink}
use Rattle.rules.specs.Promises.{Settles, SettlesBoth}
use Rattle.rules.proofs.Uniqueness.{numbers_settle}
use Rattle.links.specs.Links.{behind, next_numbers, place_in, Tells, TellsByNumber}
use Rattle.links.specs.Runs.{Made, Moved}
use Rattle.links.specs.declared.LinkReader.{LinkReader}
use Rattle.links.specs.declared.Link.{Link}

module _ (bytes : List ℕ) (place : ℕ) where
  -- the place behind is what it should be
  abbrev Own : Option Link → Type 0
  Own x = place_in place x ≡ behind bytes place

  next_from : NextLink → Option Link
  next_from n =
      pick (n.more =? 0) None (Some (record { a = n.link.a; b = n.link.b; weight = n.link.weight; behind = behind bytes place }))

  next_again : (x : Option Link) → Own x → next_from (next_numbers x) ≡ x
  unfolding next_from next_numbers place_in
  next_again (Some l) own = ap (λ (n : ℕ). Some (record { a = l.a; b = l.b; weight = l.weight; behind = n })) (sym own)
  next_again None own = refl

  pub link_at_settled : Settles (Tells bytes place)
  link_at_settled = numbers_settle _ _ next_numbers Own next_from next_again _

pub link_by_number_settled : (bytes : List ℕ) (start i : ℕ) → Settles (TellsByNumber bytes start i)
link_by_number_settled bytes start i = link_at_settled bytes (start + 7 * i)

-- a reader is its table and its place
reader_settled : (table : Bor (List ℕ)) (place : ℕ) → Settles (λ (reader : LinkReader). (reader.table ≡ table) × (reader.place ≡ place))
reader_settled table place x y p q = λ i. record { table = (p.0 ∙ sym q.0) i; place = (p.1 ∙ sym q.1) i }

pub read_links_settled : (table : Bor (List ℕ)) → Settles (Made table)
read_links_settled table = reader_settled _ _

-- the answer, and the reader afterwards
pub next_link_settled : (reader : LinkReader) → SettlesBoth (Moved reader)
next_link_settled reader x y p q = λ i. (
  link_at_settled reader.table.now reader.place x.0 y.0 p.0 q.0 i,
  reader_settled _ _ x.1 y.1 (p.1, p.2) (q.1, q.2) i,
)
