-- Looking for a router's name: what holds at each place of the search, and what it finds.
-- Assumes nothing.
use mathlib.Core.Path.{◌≡◌, refl, sym, ◌∙◌, ap, subst}
use mathlib.Core.Logic.{◌≢◌}
use mathlib.Core.List.{List}
use Prim.Native.Nat.{ℕ, ◌+◌, ◌-◌, ◌≤◌, ◌<◌}
use native.Mathlib.Omega.{arith}
use lib.ListN.{length}
use borrow.Author.Tests.{eq-eqb, ne_eqb}
use Rattle.std.specs.Prelude.{Option, Some, None}
use Rattle.rules.specs.Layout.{Name, tag_name}
use Rattle.rules.specs.Table.{byte, says}
use Rattle.rules.specs.Demand1.{IsAccepted}
use Rattle.rules.specs.Names.{name_in}
use Rattle.rules.specs.NameQuestions.{name_for}
use Rattle.rules.proofs.Basics.{pick_t, pick_f}
use Rattle.refusals.specs.declared.Which.{Which}
use Rattle.names.specs.Namings.{part_of}
use Rattle.names.specs.declared.Part.{Part}
use Rattle.names.proofs.NamesListed.{Listed, done, more, names_listed}

-- the names from this place on, among which the router's stands if it has one
pub record Seeks (bytes : List ℕ) (router place : ℕ) : Type 0 where
  pub names : List Name
  pub listed : Listed bytes place names
  pub same : name_in names router ≡ name_for bytes router

-- the part of so many bytes at a place
abbrev here : Which → ℕ → ℕ → Option Part
here which place size = Some (record { table = which; place = place; size = size })

pub seeks_first : (bytes : List ℕ) (router : ℕ) → IsAccepted bytes → Seeks bytes router 4
seeks_first bytes router e = record { names = (says bytes).names; listed = names_listed bytes e; same = refl }

module _ {bytes : List ℕ} {router place : ℕ} (s : Seeks bytes router place) where
  pub seeks_within : place < length bytes
  seeks_within = go s.listed
    where
      go : {ms : List Name} → Listed bytes place ms → place < length bytes
      go (done h t) = h
      go (more t r p z h l) = omega arith

  -- where no name stands there is none
  pub seeks_none : (which : Which) → byte bytes place ≢ tag_name → None ≡ part_of which (name_for bytes router)
  unfolding part_of name_in
  seeks_none which n = go s.listed s.same
    where
      go : {ms : List Name} → Listed bytes place ms → name_in ms router ≡ name_for bytes router → None ≡ part_of which (name_for bytes router)
      go (done h t) e = ap (part_of which) e
      go (more t r p z h l) e = absurd (n t)

  module _ (t : byte bytes place ≡ tag_name) where
    -- a whole name stands here
    pub seeks_whole : (1 ≤ byte bytes (place + 2)) × (place + 3 + byte bytes (place + 2) ≤ length bytes)
    seeks_whole = go s.listed
      where
        go : {ms : List Name} → Listed bytes place ms → (1 ≤ byte bytes (place + 2)) × (place + 3 + byte bytes (place + 2) ≤ length bytes)
        go (done h n) = absurd (n t)
        go (more _ r p z h l) = (omega arith, omega arith)

    module _ (size : ℕ) (q : size ≡ byte bytes (place + 2) - 1) where
      -- it is the router's
      pub seeks_found : (which : Which) → byte bytes (place + 3) ≡ router → here which (place + 4) size ≡ part_of which (name_for bytes router)
      unfolding part_of name_in
      seeks_found which f = go s.listed s.same
        where
          go : {ms : List Name} → Listed bytes place ms → name_in ms router ≡ name_for bytes router
              → here which (place + 4) size ≡ part_of which (name_for bytes router)
          go (done h n) e = absurd (n t)
          go (more {m = m} _ r p z h l) e =
              let sized : size ≡ length m.bytes = omega arith in
              (λ i. here which (sym p i) (sized i)) ∙ ap (part_of which) (sym (pick_t _ _ _ (eq-eqb m.router router (sym r ∙ f))) ∙ e)

      -- it is another's
      pub seeks_on : byte bytes (place + 3) ≢ router → Seeks bytes router (place + (4 + size))
      unfolding name_in
      seeks_on f = go s.listed s.same
        where
          go : {ms : List Name} → Listed bytes place ms → name_in ms router ≡ name_for bytes router → Seeks bytes router (place + (4 + size))
          go (done h n) e = absurd (n t)
          go (more {m = m} {ms = ms} _ r p z h l) e = record {
            names = ms;
            listed = subst (λ n. Listed bytes n ms) (omega arith) l;
            same = sym (pick_f _ _ _ (ne_eqb m.router router (λ g. f (r ∙ g)))) ∙ e;
          }
