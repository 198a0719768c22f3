-- Entries by a next-hop set alone, and over the web of an accepted table.
-- Assumes nothing.
use mathlib.Core.Path.{◌≡◌, sym, ◌∙◌, ap}
use mathlib.Core.Logic.{◌≢◌, ◌⊎◌, inl, inr}
use mathlib.Core.Bool.{true, false}
use mathlib.Core.List.{List}
use Prim.Native.Nat.{ℕ, ◌≤◌, ◌<◌}
use native.Mathlib.Decide.{ℕ_discrete, dec_lt}
use native.Mathlib.Omega.{arith}
use lib.Dec.{ltb}
use borrow.Author.Tests.{lt-ltb, le-ltb, ne_eqb}
use Rattle.rules.specs.Layout.{Table, Obeys}
use Rattle.rules.specs.Table.{says}
use Rattle.rules.specs.Costs.{no_cost, cost}
use Rattle.rules.specs.NextHops.{has, chosen, next_hops}
use Rattle.rules.specs.Entries.{Entry, forward, entry_by, rules_of, entry}
use Rattle.rules.specs.Demand1.{IsAccepted}
use Rattle.rules.specs.EntryQuestion.{EntryInputs, entry_asked}
use Rattle.rules.proofs.Acceptance.{obeys}
use Rattle.rules.proofs.Entries.{home_delivers, discards_drop, others_go}
use Rattle.rules.proofs.Sets.{empty_sets}
use Rattle.rules.proofs.LeastCost.{cost_laws}
use Rattle.tables.specs.Readings.{outline_of}
use Rattle.tables.specs.declared.Outline.{Outline}
use Rattle.webs.specs.declared.Web.{Web}
use Rattle.webs.specs.Webs.{LaysOut}
use Rattle.search.specs.Search.{FindsCosts}
use Rattle.search.proofs.OfTable.{found_hops}
use Rattle.routes.specs.Hops.{FindsHops}
use Rattle.entries.specs.declared.Entry.TheVariants.{Deliver, Discard, NoRoute, Forward}
use Rattle.entries.specs.Entries.{entry_told, rules_by, pipo, Decides}

-- ---- the four lines, by a set and the previous hops whose packets are discarded

module _ (set discarded i j d : ℕ) where
  pub delivers : i ≡ d → Decides set discarded i j d Deliver
  unfolding entry_told
  delivers e = sym (home_delivers (rules_by set discarded) i j d e)

  module _ (a : i ≢ d) where
    pub cut_off : set ≡ 0 → Decides set discarded i j d NoRoute
    unfolding entry_told entry_by rules_by
    cut_off e = rw (ne_eqb i d a, le-ltb 0 set (omega arith))

    module _ (s : set ≢ 0) where
      pub discards : has discarded j ≡ true → Decides set discarded i j d Discard
      unfolding entry_told rules_by
      discards e = sym (discards_drop (rules_by set discarded) i j d a (lt-ltb 0 set (omega arith)) e)

      pub sends : (k : ℕ) → k ≡ chosen set → has discarded j ≡ false → Decides set discarded i j d (Forward k)
      unfolding entry_told rules_by
      sends k q e = ap forward q ∙ sym (others_go (rules_by set discarded) i j d a (lt-ltb 0 set (omega arith)) e)

-- away from the destination the set is empty exactly if there is no route, so that the set alone decides as the table does
pub by_set : (t : Table) → Obeys t → (i j d set : ℕ) → set ≡ next_hops t i d → entry_by (pipo set) i j d ≡ entry t i j d
unfolding entry entry_by rules_by rules_of
by_set t o i j d set q = rw q (go (ℕ_discrete i d))
  where
    go : Dec (i ≡ d) → entry_by (pipo (next_hops t i d)) i j d ≡ entry_by (rules_of t d) i j d
    go (yes e) = home_delivers (pipo (next_hops t i d)) i j d e ∙ sym (home_delivers (rules_of t d) i j d e)
    go (no a) = rw (routed (ℕ_discrete (next_hops t i d) 0))
      where
        routed : Dec (next_hops t i d ≡ 0) → ltb 0 (next_hops t i d) ≡ ltb (cost t i d) no_cost
        routed (yes e) = le-ltb 0 (next_hops t i d) (omega arith) ∙ sym (le-ltb (cost t i d) no_cost (none ((empty_sets t o i d).0 e)))
          where
            none : (i ≡ d) ⊎ (cost t i d ≡ no_cost) → no_cost ≤ cost t i d
            none (inl e) = absurd (a e)
            none (inr e) = omega arith
        routed (no e) = lt-ltb 0 (next_hops t i d) (omega arith) ∙ sym (lt-ltb (cost t i d) no_cost (some (dec_lt (cost t i d) no_cost)))
          where
            some : Dec (cost t i d < no_cost) → cost t i d < no_cost
            some (yes l) = l
            some (no l) = absurd (e ((empty_sets t o i d).1 (inr (omega (arith, (cost_laws t o d).top i)))))

-- the entry over the web of an accepted table
pub over_web : (q : EntryInputs) → IsAccepted q.table → (t : Outline) → t ≡ outline_of q.table → (web : Web) → LaysOut q.table t web
    → q.destination < 64
    → (costs : List ℕ) → FindsCosts web q.destination costs
    → (set : ℕ) → FindsHops web costs q.router set
    → (r : Entry) → r ≡ entry_by (pipo set) q.router q.previous q.destination → r ≡ entry_asked q
unfolding entry_asked
over_web q a t o web e b costs f set g r h =
    h
    ∙ by_set (says q.table) (obeys q.table a) q.router q.previous q.destination set
    (g ∙ found_hops q.table a t o web e costs q.destination b f q.router)
