-- From the guides to the tables: over the guides of two tables that go together a packet takes the very path that it takes over the tables, since it
-- ends by the rules before the hops run out.
-- Assumes nothing.
use mathlib.Core.Path.{◌≡◌, refl, sym, ◌∙◌, ap, subst}
use mathlib.Core.Logic.{inr}
use mathlib.Core.List.{List, map}
use Prim.Native.Nat.{ℕ, ◌-◌, ◌<◌}
use native.Mathlib.Decide.{dec_lt}
use native.Mathlib.Omega.{arith}
use lib.Dec.{eqb}
use lib.ListN.{get_or, take}
use lib.Seq.{get_or-take}
use Rattle.rules.specs.Words.{◌<?◌, pick, below}
use Rattle.rules.specs.Layout.{Obeys}
use Rattle.rules.specs.Table.{says}
use Rattle.rules.specs.Links.{weight}
use Rattle.rules.specs.Costs.{cost}
use Rattle.rules.specs.NextHops.{has, next_hops}
use Rattle.rules.specs.Entries.{entry_by, rules_of, entry}
use Rattle.rules.specs.Paths.{View, old_view, new_view, by, Choice, listed, Path, Site, entry_at, site_of, path_in}
use Rattle.rules.specs.PathQuestion.{PathInputs, packet_of, path_of}
use Rattle.rules.specs.Demand3.{Follows, delivers, discards, has_none, loses, crosses, Loopless, Demand3}
use Rattle.rules.proofs.Basics.{value_at, value_behind}
use Rattle.rules.proofs.Acceptance.{obeys}
use Rattle.rules.proofs.Weights.{net}
use Rattle.rules.proofs.LeastCost.{out_of_reach}
use Rattle.rules.proofs.Sets.{empty_sets}
use Rattle.rules.proofs.LoopFree.{bounded}
use Rattle.rules.proofs.PathQuestion.{path_proved}
use Rattle.tables.specs.declared.accepted.Table.{Table}
use Rattle.tables.proofs.Asked.{own_routers}
use Rattle.webs.specs.Webs.{web_at, web_weight}
use Rattle.webs.proofs.Accepted.{accepted_near}
use Rattle.search.specs.Search.{costs_from, cost_at, hops_over}
use Rattle.search.proofs.OfTable.{found_hops}
use Rattle.entries.proofs.Entries.{by_set}
use Rattle.pairs.specs.declared.both.Together.{Together}
use Rattle.paths.specs.declared.Guides.{Guides}
use Rattle.paths.specs.PathAnswers.{asked_of, Followable}
use Rattle.paths.specs.Following.{rules_over, site_over, sets_over, sets_of, near_of, guides_to, Lent, path_over}

-- ---- a table's own entries and links

module _ (t : Table) (d : ℕ) where
  abbrev table : List ℕ
  table = t.bytes.now

  o : Obeys (says table)
  o = obeys table t.accepted

  -- the links of the table join
  own_links : (i k : ℕ) → has (get_or (near_of t) i 0) k ≡ (0 <? weight (says table) i k)
  own_links = accepted_near table t.accepted t.outline t.outlined (web_at table t.outline) refl

  module _ (b : d < 64) where
    -- each router's set is its own; behind the last there is no route
    own_set : (i : ℕ) → get_or (sets_of t d) i 0 ≡ next_hops (says table) i d
    unfolding sets_over cost
    own_set i = go (dec_lt i 64)
      where
        costs : List ℕ
        costs = costs_from (web_weight (web_at table t.outline)) d

        hops : ℕ → ℕ
        hops = hops_over (web_weight (web_at table t.outline)) (cost_at costs)

        go : Dec (i < 64) → get_or (map hops (below 64)) i 0 ≡ next_hops (says table) i d
        go (yes h) = value_at hops 64 i 0 h ∙ found_hops table t.accepted t.outline t.outlined (web_at table t.outline) refl costs d b refl i
        go (no h) =
            value_behind hops 64 i 0 (omega arith)
            ∙ sym ((empty_sets (says table) o i d).1 (inr (out_of_reach (net (says table) o) i d (omega (arith, o.few_routers)) (omega arith))))

    -- so its entries are the table's
    own_entry : (i j : ℕ) → entry_by (rules_over (sets_of t d)) i j d ≡ entry_by (rules_of (says table) d) i j d
    unfolding entry_by rules_over entry
    own_entry i j = by_set (says table) o i j d (get_or (sets_of t d) i 0) (own_set i)

-- ---- what follows in one site follows in another where every router enters alike and the same links carry

module _ (site site' : Site) (choice : Choice)
    (enters : (n i j : ℕ) → entry_at site' choice n i j ≡ entry_at site choice n i j)
    (carries : (i k : ℕ) → site'.carries i k ≡ site.carries i k) where
  follows_too : {n i j : ℕ} {path : Path} → Follows site choice n i j path → Follows site' choice n i j path
  follows_too (delivers e) = delivers (enters _ _ _ ∙ e)
  follows_too (discards e) = discards (enters _ _ _ ∙ e)
  follows_too (has_none e) = has_none (enters _ _ _ ∙ e)
  follows_too (loses e c) = loses (enters _ _ _ ∙ e) (carries _ _ ∙ c)
  follows_too (crosses e c r) = crosses (enters _ _ _ ∙ e) (carries _ _ ∙ c) (follows_too r)

-- ---- a packet that is asked for rightly, over the guides of both tables

module _ (t : Together) (s d : ℕ) (views trace : List ℕ) (𝓕 : Followable (asked_of t s d views trace)) where
  abbrev q : PathInputs
  q = asked_of t s d views trace

  abbrev n : ℕ
  n = t.new.outline.routers

  same_n : n ≡ (says q.new).routers
  same_n = own_routers q.new t.new.outline t.new.outlined

  new_obeys : Obeys (says q.new)
  new_obeys = obeys q.new t.new.accepted

  -- what following it asks for
  pub lent : Lent n s views
  lent = record {
    some = omega (arith, same_n, 𝓕.numbers.source_below);
    few = omega (arith, same_n, new_obeys.few_routers);
    source = omega (arith, 𝓕.numbers.source_below, new_obeys.few_routers);
    views_enough = omega (arith, same_n, 𝓕.views.enough);
  }

  abbrev site : Site
  site = site_over d (guides_to t d)

  -- every router enters as by the tables, and the links of the new table carry
  enters : (choice : Choice) (m i j : ℕ) → entry_at site choice m i j ≡ entry_at (site_of (packet_of q)) choice m i j
  unfolding site_over site_of
  enters choice m i j = go (choice i m)
    where
      b : d < 64
      b = omega (arith, 𝓕.numbers.destination_below, new_obeys.few_routers)

      go : (v : View) → entry_by (rules_over (by v (sets_of t.old d) (sets_of t.new d))) i j d
          ≡ entry_by (rules_of (by v (says q.old) (says q.new)) d) i j d
      go old_view = own_entry t.old d b i j
      go new_view = own_entry t.new d b i j

  carries : (i k : ℕ) → site.carries i k ≡ (site_of (packet_of q)).carries i k
  unfolding site_over site_of
  carries = own_links t.new d

  -- the first N − 1 views, and no other is asked for
  abbrev first_views : Choice
  first_views = listed (take (n - 1) views)

  same_view : (i m : ℕ) → m < (says q.new).routers - 1 → first_views i m ≡ listed views i m
  unfolding listed
  same_view i m b = ap (λ v. pick (eqb v 1) new_view old_view) (get_or-take (n - 1) views m 0 (omega (arith, same_n)))

  -- demand 3, whatever the choice
  demand3 : (choice : Choice) → Demand3 (says q.new) s d (site_of (packet_of q)) choice
  demand3 choice = ((path_proved q).demand3 t.fits 𝓕.numbers choice).general

  loopless : Loopless (says q.new).routers s (site_of (packet_of q)) first_views (path_of q)
  unfolding path_of
  loopless =
      subst (Loopless (says q.new).routers s (site_of (packet_of q)) first_views)
      ((demand3 (listed views)).early first_views same_view)
      (demand3 first_views).loopless

  -- so the packet takes the same path over the guides, for which N − 1 hops are enough
  pub same_path : (guides : Guides) → guides ≡ guides_to t d
      → path_over guides n s d views ≡ path_of q
  unfolding path_over path_in
  same_path guides g =
      rw g (
      bounded (follows_too (site_of (packet_of q)) site first_views (enters first_views) carries loopless.by_rules)
      (n - 1) (omega (arith, same_n, loopless.few))
      )
