-- Demand 3 for any permitted rules, any links that carry, and views chosen by anyone: no router twice, N − 1 hops at most, N − 1 views enough.
-- Assumes nothing.
use mathlib.Core.Path.{◌≡◌, refl, sym, ◌∙◌, ap, subst}
use mathlib.Core.Logic.{◌≢◌, ◌⊎◌, inl, inr}
use mathlib.Core.Bool.{Bool, true, false, false≢true}
use mathlib.Core.List.{List, [], ◌∷◌}
use Prim.Native.Nat.{ℕ, zero, suc, ◌+◌, ◌-◌, ◌≤◌, ◌<◌}
use native.Mathlib.Omega.{arith}
use lib.ListN.{length, get_or}
use borrow.Author.Tests.{ltb-true}
use Rattle.rules.specs.Words.{pick, All, Distinct}
use Rattle.rules.specs.Layout.{Table, Obeys}
use Rattle.rules.specs.Links.{weight}
use Rattle.rules.specs.Costs.{no_cost, cost}
use Rattle.rules.specs.Entries.{Entry, deliver, discard, no_route, forward, entry_by, starts_here}
use Rattle.rules.specs.Paths.{View, old_view, new_view, by, Choice, Outcome, outcome_code, delivered, discarded, unrouted, lost, Path, ended, crossed, Site, leave, arrive, entry_at, follow}
use Rattle.rules.specs.Demand3.{Follows, delivers, discards, has_none, loses, crosses, Together, Permitted, EachHop, deciders, Loopless}
use Rattle.rules.proofs.Basics.{All-there, pigeonhole}
use Rattle.rules.proofs.CostLaws.{Net, BothWays, Costs}
use Rattle.rules.proofs.Weights.{net, both_ways}
use Rattle.rules.proofs.LeastCost.{cost_laws}
use Rattle.rules.proofs.Sets.{has_next}
use Rattle.rules.proofs.Entries.{Enters, sends, entered, away}
use Rattle.rules.proofs.OneChange.{one_change}
use Rattle.rules.proofs.Hop.{Sends, Trail, stays, goes, no_router_twice, trail_inside, trail_short}

-- one hop more is one router more that decides
pub deciders_suc : (o : Outcome) (hops : ℕ) → deciders o (suc hops) ≡ suc (deciders o hops)
deciders_suc delivered hops = refl
deciders_suc discarded hops = refl
deciders_suc unrouted hops = refl
deciders_suc lost hops = refl

-- what holds of a hop and of those behind it
more_hops : (P : ℕ → ℕ → Type 0) (i k : ℕ) (is ks : List ℕ) → is ≡ k ∷ ks → P i k → EachHop P is → EachHop P (i ∷ is)
more_hops P i k is ks e p h =
    let h' : EachHop P (k ∷ ks) = rw e at h in
    rw e (p, h')

-- ---- what every answer of the rules is like, whatever the rules

module _ {site : Site} {choice : Choice} where
  -- the trace begins where the packet stands
  pub begins : {n i j : ℕ} {path : Path} → Follows site choice n i j path → (ks : List ℕ) × (path.trace ≡ i ∷ ks)
  begins (delivers e) = ([], refl)
  begins (discards e) = ([], refl)
  begins (has_none e) = ([], refl)
  begins (loses e f) = ([], refl)
  begins (crosses {onward = onward} e f r) = (onward.trace, refl)

  pub counted : {n i j : ℕ} {path : Path} → Follows site choice n i j path → length path.trace ≡ suc path.hops
  counted (delivers e) = refl
  counted (discards e) = refl
  counted (has_none e) = refl
  counted (loses e f) = refl
  counted (crosses e f r) = ap suc (counted r)

  -- it ends where the packet ended
  finished : {n i j : ℕ} {path : Path} → Follows site choice n i j path → get_or path.trace path.hops 255 ≡ path.router
  finished (delivers e) = refl
  finished (discards e) = refl
  finished (has_none e) = refl
  finished (loses e f) = refl
  finished (crosses e f r) = finished r

  -- every link crossed carries
  carried : {n i j : ℕ} {path : Path} → Follows site choice n i j path → EachHop (λ i k. site.carries i k ≡ true) path.trace
  carried (delivers e) = tt
  carried (discards e) = tt
  carried (has_none e) = tt
  carried (loses e f) = tt
  carried (crosses {i = i} {k = k} {onward = onward} e f r) =
      let (ks, q) = begins r in
      more_hops (λ i k. site.carries i k ≡ true) i k onward.trace ks q f (carried r)

  -- a packet that was not delivered met no destination
  never_home : {n i j : ℕ} {path : Path} → Follows site choice n i j path → path.outcome ≢ delivered → All (λ z. z ≢ site.destination) path.trace
  never_home (delivers e) h = absurd (h refl)
  never_home (discards {n} {i} {j} e) h = (away (site.rules (choice i n)) i j site.destination e refl, tt)
  never_home (has_none {n} {i} {j} e) h = (away (site.rules (choice i n)) i j site.destination e refl, tt)
  never_home (loses {n} {i} {j} e f) h = (away (site.rules (choice i n)) i j site.destination e refl, tt)
  never_home (crosses {n} {i} {j} e f r) h = (away (site.rules (choice i n)) i j site.destination e refl, never_home r h)

  -- the bound is not met where the hops are within it
  pub bounded : {n i j : ℕ} {path : Path} → Follows site choice n i j path → (left : ℕ) → path.hops ≤ left → follow site choice left n i j ≡ path
  unfolding follow
  bounded (delivers e) zero h = rw e
  bounded (delivers e) (suc left) h = rw e
  bounded (discards e) zero h = rw e
  bounded (discards e) (suc left) h = rw e
  bounded (has_none e) zero h = rw e
  bounded (has_none e) (suc left) h = rw e
  bounded (loses e f) zero h = rw e
  bounded (loses e f) (suc left) h = rw (e, f)
  bounded (crosses e f r) zero h = absurd (omega arith)
  bounded (crosses {i = i} e f r) (suc left) h = rw (e, f) (ap (crossed i) (bounded r left (omega arith)))

  -- the rules give one answer
  pub one_path : {n i j : ℕ} {path path' : Path} → Follows site choice n i j path → Follows site choice n i j path' → path ≡ path'
  one_path {path = path} {path' = path'} f g =
      sym (bounded f (path.hops + path'.hops) (omega arith)) ∙ bounded g (path.hops + path'.hops) (omega arith)

-- ---- the two views

abbrev pub W : Table → Table → View → ℕ → ℕ → ℕ
W old new v = weight (by v old new)

abbrev pub C : Table → Table → ℕ → View → ℕ → ℕ
C old new d v i = cost (by v old new) i d

module _ {old new : Table} (𝓣 : Together old new) where
  pub obeys : (v : View) → Obeys (by v old new)
  obeys old_view = 𝓣.old_obeys
  obeys new_view = 𝓣.new_obeys

  nets : (v : View) → Net new.routers (W old new v)
  nets old_view = rw 𝓣.same_routers at (net old 𝓣.old_obeys)
  nets new_view = net new 𝓣.new_obeys

  both : (v : View) → BothWays (W old new v)
  both v = both_ways (by v old new)

  pub laws : (d : ℕ) (v : View) → Costs (W old new v) d (C old new d v)
  laws d v = cost_laws (by v old new) (obeys v) d

-- ---- what the permitted rules add

module _ {old new : Table} {d : ℕ} {site : Site} (𝓣 : Together old new) (𝓟 : Permitted old new d site) where
  -- a router that forwards does so to a next hop, and did not come from one
  sent : (v : View) (j i k : ℕ) → entry_by (site.rules v) i j site.destination ≡ forward k → Sends (W old new) (C old new d) v j i k
  sent v j i k e = go (entered (site.rules v) i j site.destination e)
    where
      go : {k : ℕ} → Enters (site.rules v) i j site.destination (forward k) → Sends (W old new) (C old new d) v j i k
      go (sends a r t) =
          let elsewhere : i ≢ d = λ q. a (q ∙ sym 𝓟.for_d) in
          let finite = ltb-true (cost (by v old new) i d) no_cost (sym (𝓟.knows v i elsewhere) ∙ r) in
          record {
            onward = (has_next (by v old new) (obeys 𝓣 v) i d ((site.rules v).hop i j)).0 (𝓟.member v i j elsewhere finite);
            kept = λ s. false≢true (sym t ∙ 𝓟.discards_pipo v i j ((has_next (by v old new) (obeys 𝓣 v) i d j).1 s));
          }

  module _ (choice : Choice) where
    trail : {n i j : ℕ} {path : Path} → Follows site choice n i j path → Trail (W old new) (C old new d) j i path.trace
    trail (delivers e) = stays
    trail (discards e) = stays
    trail (has_none e) = stays
    trail (loses e f) = stays
    trail (crosses {n} {i} {j} {k} e f r) = goes (sent (choice i n) j i k e) (trail r)

    -- a trail of one router more than `left` hops visit
    abbrev TooLong : ℕ → ℕ → ℕ → Type 0
    TooLong left i j = (is : List ℕ) × Trail (W old new) (C old new d) j i is × (length is ≡ suc (suc left))

    -- following gives what the rules give, or a trail longer than its bound
    runs : (left n i j : ℕ) → Follows site choice n i j (follow site choice left n i j) ⊎ TooLong left i j
    unfolding follow
    runs zero n i j = go (entry_at site choice n i j) refl
      where
        go : (e : Entry) → entry_at site choice n i j ≡ e
            → Follows site choice n i j (arrive i (λ k. ended lost i) e) ⊎ TooLong 0 i j
        go deliver q = inl (delivers q)
        go discard q = inl (discards q)
        go no_route q = inl (has_none q)
        go (forward k) q = inr (i ∷ k ∷ [], goes (sent (choice i n) j i k q) stays, refl)
    runs (suc left) n i j = go (entry_at site choice n i j) refl (λ k. runs left (suc n) k i)
      where
        go : (e : Entry) → entry_at site choice n i j ≡ e
            → ((k : ℕ) → Follows site choice (suc n) k i (follow site choice left (suc n) k i) ⊎ TooLong left k i)
            → Follows site choice n i j (arrive i (λ k. leave site i k (follow site choice left (suc n) k i)) e)
            ⊎ TooLong (suc left) i j
        go deliver q ih = inl (delivers q)
        go discard q ih = inl (discards q)
        go no_route q ih = inl (has_none q)
        go (forward k) q ih = carry (site.carries i k) refl (ih k)
          where
            carry : (c : Bool) → site.carries i k ≡ c
                → Follows site choice (suc n) k i (follow site choice left (suc n) k i) ⊎ TooLong left k i
                → Follows site choice n i j (pick c (crossed i (follow site choice left (suc n) k i)) (ended lost i))
                ⊎ TooLong (suc left) i j
            carry false f r = inl (loses q f)
            carry true f (inl r) = inl (crosses q f r)
            carry true f (inr (is, t, l)) = inr (i ∷ is, goes (sent (choice i n) j i k q) t, ap suc l)

    -- N − 1 hops are enough
    pub follows : (j i : ℕ) → i < new.routers → Follows site choice 0 i j (follow site choice (new.routers - 1) 0 i j)
    follows j i b = go (runs (new.routers - 1) 0 i j)
      where
        go : {path : Path} → Follows site choice 0 i j path
            ⊎ TooLong (new.routers - 1) i j → Follows site choice 0 i j path
        go (inl f) = f
        go (inr (is, t, l)) = absurd (omega (arith, trail_short (nets 𝓣) (both 𝓣) (laws 𝓣 d) (one_change 𝓣) t b))

    pub loopless : (s : ℕ) {path : Path} → s < new.routers → d < new.routers → Follows site choice 0 s starts_here path → Loopless new.routers s site choice path
    loopless s {path} b h f = record {
      by_rules = f;
      once = once;
      counted = counted f;
      from_source = ap (λ is. get_or is 0 255) (begins f).1;
      to_its_end = finished f;
      all_routers = inside;
      few = few;
      over_links = carried f;
      enough = enough path.outcome refl;
    }
      where
        t : Trail (W old new) (C old new d) starts_here s path.trace
        t = trail f

        once : Distinct path.trace
        once = no_router_twice (nets 𝓣) (both 𝓣) (laws 𝓣 d) (one_change 𝓣) t

        inside : All (λ i. i < new.routers) path.trace
        inside = trail_inside (nets 𝓣) (both 𝓣) (laws 𝓣 d) (one_change 𝓣) t b

        few : path.hops < new.routers
        few = omega (arith, counted f, trail_short (nets 𝓣) (both 𝓣) (laws 𝓣 d) (one_change 𝓣) t b)

        -- the destination is one more router, where the packet was not delivered
        undelivered : path.outcome ≢ delivered → suc path.hops ≤ new.routers - 1
        undelivered u =
            let away : All (λ z. z ≢ d) path.trace = rw 𝓟.for_d at (never_home f u) in
            omega (arith, counted f, pigeonhole new.routers (d ∷ path.trace) (away, once) (h, inside))

        enough : (o : Outcome) → path.outcome ≡ o → deciders o path.hops ≤ new.routers - 1
        enough delivered e = omega (arith, few)
        enough discarded e = undelivered (λ q. omega (arith, ap outcome_code (sym e ∙ q)))
        enough unrouted e = undelivered (λ q. omega (arith, ap outcome_code (sym e ∙ q)))
        enough lost e = undelivered (λ q. omega (arith, ap outcome_code (sym e ∙ q)))

-- the packet ended at one of the routers
pub ends_inside : {routers s : ℕ} {site : Site} {choice : Choice} {path : Path} → Loopless routers s site choice path → path.router < routers
ends_inside {routers} {path = path} l =
    subst (λ i. i < routers) l.to_its_end (All-there (λ i. i < routers) path.trace l.all_routers path.hops 255 (omega (arith, l.counted)))
