-- What demand 3 says, as statements: no router twice, whatever the views. Each is proved in the file of `proofs/` that its heading names.
use Rattle.std.specs.Prelude.{◌≡◌, ◌≢◌, ◌↔◌, true, false, List, [], ◌∷◌, ℕ, suc, ◌+◌, ◌-◌, ◌≤◌, ◌<◌, length, get_or}
use Rattle.rules.specs.Words.{All, Distinct, ◌<?◌}
use Rattle.rules.specs.Layout.{Obeys, Table}
use Rattle.rules.specs.Links.{weight}
use Rattle.rules.specs.Pairs.{differing}
use Rattle.rules.specs.Costs.{cost, no_cost}
use Rattle.rules.specs.NextHops.{has, next_hops}
use Rattle.rules.specs.Entries.{deliver, discard, entry, entry_by, forward, no_route, starts_here}
use Rattle.rules.specs.Paths.{Choice, Outcome, Packet, Path, Site, View, by, delivered, discarded, ended, entry_at, path_in, listed, lost, new_view, path, site_of, unrouted}

-- ---- following as a relation: what arriving and leaving give, however many hops it takes

-- n routers have decided; the packet stands at i and came from j
pub data Follows (site : Site) (choice : Choice) : ℕ → ℕ → ℕ → Path → Type 0 where
  delivers : {n i j : ℕ} → entry_at site choice n i j ≡ deliver
      → Follows site choice n i j (record { outcome = delivered; router = i; hops = 0; trace = i ∷ [] })
  discards : {n i j : ℕ} → entry_at site choice n i j ≡ discard
      → Follows site choice n i j (record { outcome = discarded; router = i; hops = 0; trace = i ∷ [] })
  has_none : {n i j : ℕ} → entry_at site choice n i j ≡ no_route
      → Follows site choice n i j (record { outcome = unrouted; router = i; hops = 0; trace = i ∷ [] })
  loses : {n i j k : ℕ} → entry_at site choice n i j ≡ forward k → site.carries i k ≡ false
      → Follows site choice n i j (record { outcome = lost; router = i; hops = 0; trace = i ∷ [] })
  crosses : {n i j k : ℕ} {onward : Path} → entry_at site choice n i j ≡ forward k → site.carries i k ≡ true
      → Follows site choice (suc n) k i onward
      → Follows site choice n i j (record { outcome = onward.outcome; router = onward.router; hops = suc onward.hops; trace = i ∷ onward.trace })

-- ---- what is asked

-- two tables of the same routers that differ in one link at most
pub record Together (old new : Table) : Type 0 where
  pub old_obeys : Obeys old
  pub new_obeys : Obeys new
  pub same_routers : old.routers ≡ new.routers
  pub one_link : differing old new ≤ 1

-- Any rules that know the routes of each view, forward to any member of the set, and discard at least what PIPO discards. Nothing is asked of
-- them at the destination, which delivers, nor of the links that carry.
pub record Permitted (old new : Table) (d : ℕ) (site : Site) : Type 0 where
  pub for_d : site.destination ≡ d
  pub knows : (v : View) (i : ℕ) → i ≢ d → (site.rules v).has_route i ≡ (cost (by v old new) i d <? no_cost)
  pub member : (v : View) (i j : ℕ) → i ≢ d → cost (by v old new) i d < no_cost
      → has (next_hops (by v old new) i d) ((site.rules v).hop i j) ≡ true
  pub discards_pipo : (v : View) (i j : ℕ) → has (next_hops (by v old new) i d) j ≡ true → (site.rules v).discards i j ≡ true

-- With all views new: rules that discard neither what starts here nor what comes from a router whose set has this one, and links that carry
-- where the new table has one.
pub record Willing (new : Table) (d : ℕ) (site : Site) : Type 0 where
  pub starts_on : (i : ℕ) → i ≢ d → (site.rules new_view).discards i starts_here ≡ false
  pub goes_on : (i j : ℕ) → i ≢ d → has (next_hops new j d) i ≡ true → (site.rules new_view).discards i j ≡ false
  pub carried : (i k : ℕ) → 0 < weight new i k → site.carries i k ≡ true

-- ---- what is promised

-- P holds of each router of the trace and the next
abbrev pub EachHop : (ℕ → ℕ → Type 0) → List ℕ → Type 0
EachHop P [] = Unit {0}
EachHop P (i ∷ []) = Unit {0}
EachHop P (i ∷ k ∷ ks) = P i k × EachHop P (k ∷ ks)

-- the total weight of the links crossed
unfoldable pub total : (ℕ → ℕ → ℕ) → List ℕ → ℕ
total w [] = 0
total w (i ∷ []) = 0
total w (i ∷ k ∷ ks) = w i k + total w (k ∷ ks)

-- how many routers decided: all that were visited, except that the destination delivers without deciding
abbrev pub deciders : Outcome → ℕ → ℕ
deciders delivered hops = hops
deciders discarded hops = suc hops
deciders unrouted hops = suc hops
deciders lost hops = suc hops

abbrev pub decisions : Path → ℕ
decisions p = deciders p.outcome p.hops

-- no router twice, and all that goes with it
pub record Loopless (routers s : ℕ) (site : Site) (choice : Choice) (p : Path) : Type 0 where
  -- the answer is what arriving and leaving give: it never ends because the hops ran out
  pub by_rules : Follows site choice 0 s starts_here p
  pub once : Distinct p.trace
  -- hops + 1 routers, from the source to where the packet ended (255 stands for a place behind the trace)
  pub counted : length p.trace ≡ suc p.hops
  pub from_source : get_or p.trace 0 255 ≡ s
  pub to_its_end : get_or p.trace p.hops 255 ≡ p.router
  pub all_routers : All (λ i. i < routers) p.trace
  -- N − 1 hops at most, over links that carry
  pub few : p.hops < routers
  pub over_links : EachHop (λ i k. site.carries i k ≡ true) p.trace
  -- N − 1 views are enough
  pub enough : decisions p ≤ routers - 1

-- every router that decided used the new view
abbrev pub AllNew : Choice → Path → Type 0
AllNew choice p = (n : ℕ) → n < decisions p → choice (get_or p.trace n 255) n ≡ new_view

-- then nothing is discarded or lost; where a route exists the packet arrives at least cost; where none does the answer is no route, at the source
pub record AtLeastCost (new : Table) (s d : ℕ) (p : Path) : Type 0 where
  pub not_discarded : p.outcome ≢ discarded
  pub not_lost : p.outcome ≢ lost
  pub arrives : cost new s d < no_cost → (p.outcome ≡ delivered) × (p.router ≡ d) × (total (weight new) p.trace ≡ cost new s d)
  pub told : cost new s d ≡ no_cost → p ≡ ended unrouted s

-- ---- for any permitted rules, any links that carry, and views chosen by anyone (proofs/Demand3)

pub record Demand3 (new : Table) (s d : ℕ) (site : Site) (choice : Choice) : Type 0 where
  pub loopless : Loopless new.routers s site choice (path_in new.routers site choice s)
  -- no other answer is what arriving and leaving give
  pub only : (p : Path) → Follows site choice 0 s starts_here p → p ≡ path_in new.routers site choice s
  pub all_new : Willing new d site → AllNew choice (path_in new.routers site choice s) → AtLeastCost new s d (path_in new.routers site choice s)
  -- no choice behind the first N − 1 is ever asked for
  pub early : (choice' : Choice) → ((i n : ℕ) → n < new.routers - 1 → choice' i n ≡ choice i n)
      → path_in new.routers site choice' s ≡ path_in new.routers site choice s
  -- some list of N − 1 bytes, each 0 or 1, gives the same path
  pub some_list : (views : List ℕ)
      × (length views ≡ new.routers - 1)
      × All (λ v. v ≤ 1) views
      × (path_in new.routers site (listed views) s ≡ path_in new.routers site choice s)

abbrev pub Demand3ForAnyRules : Type 0
Demand3ForAnyRules =
    (old new : Table) (s d : ℕ) (site : Site) (choice : Choice)
    → Together old new → s < new.routers → d < new.routers → Permitted old new d site → Demand3 new s d site choice

-- ---- for document 01's rules: lowest member, PIPO, links of the new table (proofs/Demand3)

pub record Demand3OfPath (packet : Packet) (choice : Choice) : Type 0 where
  pub general : Demand3 packet.new packet.source packet.destination (site_of packet) choice
  -- every router gives the entry of the view that it uses, and every link crossed is in the new table
  pub by_entries : (v : View) (i j : ℕ)
      → entry_by ((site_of packet).rules v) i j packet.destination ≡ entry (by v packet.old packet.new) i j packet.destination
  pub over_new_links : EachHop (λ i k. 0 < weight packet.new i k) (path packet choice).trace
  -- the real links are those of the new table
  pub real_links : (i k : ℕ) → ((site_of packet).carries i k ≡ true) ↔ (0 < weight packet.new i k)
  pub all_new : AllNew choice (path packet choice) → AtLeastCost packet.new packet.source packet.destination (path packet choice)
