-- The names of an accepted table stand one behind the other from place 4 on, and no other name record follows.
-- Assumes nothing.
use mathlib.Core.Path.{◌≡◌, refl, sym, ◌∙◌, ap, subst}
use mathlib.Core.Logic.{◌≢◌}
use mathlib.Core.List.{List, [], ◌∷◌, ◌++◌}
use Prim.Native.Nat.{ℕ, ◌+◌, ◌≤◌, ◌<◌}
use native.Mathlib.Nat.{add-zero}
use native.Mathlib.Omega.{arith}
use lib.ListN.{length, drop, get_or-append}
use lib.Seq.{get_or-drop}
use Rattle.rules.specs.Layout.{Name, tag_routers, tag_name, tag_link}
use Rattle.rules.specs.Table.{byte, Record, name_of, Kept, says}
use Rattle.rules.specs.Demand1.{IsAccepted}
use Rattle.rules.proofs.Records.{record_at, size_at_most}
use Rattle.rules.proofs.AtPlace.{tag_at, size_at, contents_at, rest_at, within}
use Rattle.rules.proofs.Chains.{Chain, last, next, bytes_of, accepted_as}
use Rattle.rules.proofs.Sections.{Row, none, one, own, after, on}
use Rattle.rules.proofs.TableSections.{names, name_exact}
use Rattle.rules.proofs.Reading.{whole, their_table, links_chain}

-- from this place on these names follow each other, and then a record of another kind
pub data Listed (bytes : List ℕ) : ℕ → List Name → Type 0 where
  done : {place : ℕ} → place < length bytes → byte bytes place ≢ tag_name → Listed bytes place []
  more : {place : ℕ} {m : Name} {ms : List Name} → byte bytes place ≡ tag_name → byte bytes (place + 3) ≡ m.router → m.place ≡ place + 4
      → byte bytes (place + 2) ≡ length m.bytes + 1 → place + 4 + length m.bytes ≤ length bytes
      → Listed bytes (place + 4 + length m.bytes) ms → Listed bytes place (m ∷ ms)

module _ (bytes : List ℕ) where
  -- no name stands where links or the end begin
  none_here : {kept : Kept} {place : ℕ} {rs : List Record} → Chain tag_link kept place rs → bytes_of rs ≡ drop place bytes → Listed bytes place []
  none_here (last {place = place} {tag = tag} {contents = c} e f) q =
      done {place = place} (omega (arith, within bytes place tag c [] q)) (omega (arith, tag_at bytes place tag c [] q))
  none_here (next {place = place} {tag = tag} {contents = c} {rs = rs} l e f r) q =
      done {place = place} (omega (arith, within bytes place tag c (bytes_of rs) q)) (omega (arith, tag_at bytes place tag c (bytes_of rs) q))

  -- a row of names in front of them
  row_listed : {kept : Kept} {place : ℕ} {ms : List Name} (r : Row names ⊥ kept place ms) (rest : List Record) → bytes_of (own r ++ rest) ≡ drop place bytes
      → Chain tag_link (after r) (on r) rest → Listed bytes place ms
  row_listed none rest q c = none_here c q
  row_listed {kept} {place} (one {c = c} {xs = ms} f s e r) rest q n =
      subst (λ m. Listed bytes place (m ∷ ms)) s
      (more {m = name_of (record_at place tag_name c)} (tag_at bytes place tag_name c behind q) router refl
      (omega (arith, size, size_at bytes place tag_name c behind q, size_at_most tag_name (length c) f.passes.sized))
      (omega (arith, size, within bytes place tag_name c behind q))
      (subst (λ on. Listed bytes on ms) (omega (arith, size)) (row_listed r rest (rest_at bytes place tag_name c behind q) n)))
    where
      behind : List ℕ
      behind = bytes_of (own r ++ rest)

      size : length c ≡ length (drop 1 c) + 1
      size = omega (arith, ap (λ (c : List ℕ). length c) (name_exact kept.routers c f.passes))

      router : byte bytes (place + 3) ≡ byte c 0
      router =
          ap (byte bytes) (sym (add-zero (place + 3))) ∙ sym (get_or-drop (place + 3) bytes 0 0)
          ∙ ap (λ l. byte l 0) (sym (contents_at bytes place tag_name c behind q)) ∙ get_or-append c behind 0 0 (omega (arith, size))

pub names_listed : (bytes : List ℕ) → IsAccepted bytes → Listed bytes 4 (says bytes).names
unfolding says
names_listed bytes e =
    let a = accepted_as bytes e in
    let (t, o) = whole {Exact = ⊥} (λ x. absurd x) a.chain in
    let behind = rest_at bytes 0 tag_routers (t.routers ∷ []) _ (ap bytes_of (sym o.are) ∙ sym a.laid) in
    rw (a.read_so, their_table o) (row_listed bytes o.names_row _ behind (links_chain o tag_link (omega arith)))
