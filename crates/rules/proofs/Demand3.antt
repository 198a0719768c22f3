-- Demand 3, for any permitted rules and for document 01's: lowest member, PIPO, links of the new table.
-- Assumes nothing.
use mathlib.Core.Path.{◌≡◌, refl, sym, ◌∙◌, ap}
use mathlib.Core.Logic.{◌↔◌}
use mathlib.Core.Bool.{Bool, true, false}
use mathlib.Core.List.{List, [], ◌∷◌}
use Prim.Native.Nat.{ℕ, ◌-◌, ◌<◌}
use native.Mathlib.Nat.{zero-add}
use native.Mathlib.Omega.{arith}
use lib.ListN.{get_or}
use borrow.Author.Tests.{lt-ltb, ltb-true}
use Rattle.rules.specs.Layout.{Table, Obeys}
use Rattle.rules.specs.Links.{weight}
use Rattle.rules.specs.NextHops.{has, next_hops}
use Rattle.rules.specs.Entries.{entry_by, rules_of, starts_here, entry}
use Rattle.rules.specs.Paths.{View, new_view, by, Choice, Packet, Path, Site, path_in, site_of, path}
use Rattle.rules.specs.Demand3.{Follows, Together, Permitted, Willing, EachHop, Loopless, Demand3ForAnyRules, Demand3OfPath}
use Rattle.rules.proofs.Sets.{has_below, has_next, sets_fit}
use Rattle.rules.proofs.Entries.{chosen_leads}
use Rattle.rules.proofs.LoopFree.{bounded, one_path, obeys, follows, loopless}
use Rattle.rules.proofs.AllNew.{always_new, at_least_cost}
use Rattle.rules.proofs.ViewLists.{same_views, views_of, views_length, views_good, listed_follows}

pub demand3_for_any_rules : Demand3ForAnyRules
unfolding path_in
demand3_for_any_rules old new s d site choice 𝓣 b h 𝓟 = record {
  loopless = free;
  only = λ found g. one_path g f;
  all_new = λ 𝓦 all. at_least_cost 𝓣 𝓟 𝓦 s (same_views site choice always_new f (λ m l. rw (zero-add m) (sym (all m l))));
  early = λ choice' same.
      bounded (same_views site choice choice' f (λ m l. rw (zero-add m) (same (get_or found.trace m 255) m (omega (arith, free.enough)))))
      (new.routers - 1) (omega (arith, free.few));
  some_list = (
    views_of choice (new.routers - 1) found.trace,
    views_length choice (new.routers - 1) found.trace,
    views_good choice (new.routers - 1) found.trace,
    bounded (listed_follows site choice starts_here s (new.routers - 1) f free.enough) (new.routers - 1) (omega (arith, free.few)),
  );
}
  where
    found : Path
    found = path_in new.routers site choice s

    f : Follows site choice 0 s starts_here found
    f = follows 𝓣 𝓟 choice starts_here s b

    free : Loopless new.routers s site choice found
    free = loopless 𝓣 𝓟 choice s b h f

-- ---- document 01's rules

-- a site whose every router goes by document 01's rules of the one view that it uses, whatever links carry
abbrev ByViews : Table → Table → ℕ → Site → Type 0
ByViews old new d site = (site.destination ≡ d) × ((v : View) → site.rules v ≡ rules_of (by v old new) d)

pub rules_permitted : {old new : Table} → Together old new → (d : ℕ) (site : Site) → ByViews old new d site → Permitted old new d site
unfolding rules_of
rules_permitted {old} {new} 𝓣 d site (to, own) = record {
  for_d = to;
  knows = λ v i a. ap (λ r. r.has_route i) (own v);
  member = λ v i j a f. ap (λ r. has (next_hops (by v old new) i d) (r.hop i j)) (own v) ∙ chosen_leads (by v old new) (obeys 𝓣 v) i d a f;
  discards_pipo = λ v i j e. let dropped : (rules_of (by v old new) d).discards i j ≡ true = cc in ap (λ r. r.discards i j) (own v) ∙ dropped;
}

-- two routers are not each other's next hop
not_back : (t : Table) → Obeys t → (i j d : ℕ) → has (next_hops t j d) i ≡ true → has (next_hops t i d) j ≡ false
not_back t o i j d e = go (has (next_hops t i d) j) refl
  where
    go : (b : Bool) → has (next_hops t i d) j ≡ b → b ≡ false
    go true q = absurd (omega (arith, (has_next t o j d i).0 e, (has_next t o i d j).0 q))
    go false q = refl

pub rules_willing : {old new : Table} → Together old new → (d : ℕ) (site : Site) → ByViews old new d site
    → ((i k : ℕ) → 0 < weight new i k → site.carries i k ≡ true) → Willing new d site
unfolding rules_of
rules_willing {old} {new} 𝓣 d site (to, own) carried = record {
  starts_on = λ i a. ap (λ r. r.discards i starts_here) (own new_view) ∙ kept i;
  goes_on = λ i j a e. ap (λ r. r.discards i j) (own new_view) ∙ not_back new 𝓣.new_obeys i j d e;
  carried = carried;
}
  where
    -- no set has 255
    kept : (i : ℕ) → (rules_of new d).discards i starts_here ≡ false
    kept i = has_below (next_hops new i d) 64 starts_here (sets_fit new 𝓣.new_obeys i d) (omega arith)

-- what holds at each hop
EachHop-map : (P Q : ℕ → ℕ → Type 0) → ((i k : ℕ) → P i k → Q i k) → (is : List ℕ) → EachHop P is → EachHop Q is
EachHop-map P Q f [] h = tt
EachHop-map P Q f (i ∷ []) h = tt
EachHop-map P Q f (i ∷ k ∷ ks) h = (f i k h.0, EachHop-map P Q f (k ∷ ks) h.1)

-- the site of document 01 is one
site_by_views : (packet : Packet) → ByViews packet.old packet.new packet.destination (site_of packet)
unfolding site_of
site_by_views packet = (refl, λ v. refl)

-- and its links are those of the new table
carries_new : (packet : Packet) (i k : ℕ) → ((site_of packet).carries i k ≡ true) ↔ (0 < weight packet.new i k)
unfolding site_of
carries_new packet i k = (ltb-true 0 (weight packet.new i k), lt-ltb 0 (weight packet.new i k))

pub demand3_of_path : (packet : Packet) (choice : Choice)
    → Together packet.old packet.new
    → packet.source < packet.new.routers
    → packet.destination < packet.new.routers
    → Demand3OfPath packet choice
unfolding entry
demand3_of_path packet choice 𝓣 b h =
    let own = site_by_views packet in
    let d = packet.destination in
    let 𝓓 = demand3_for_any_rules _ _ packet.source d (site_of packet) choice 𝓣 b h (rules_permitted 𝓣 d (site_of packet) own) in
    record {
      general = 𝓓;
      by_entries = λ v i j. ap (λ r. entry_by r i j d) (own.1 v);
      over_new_links = EachHop-map _ _ (λ i k. (carries_new packet i k).0) (path packet choice).trace 𝓓.loopless.over_links;
      real_links = carries_new packet;
      all_new = 𝓓.all_new (rules_willing 𝓣 d (site_of packet) own (λ i k. (carries_new packet i k).1));
    }
