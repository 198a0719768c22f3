-- Following over the guides, whatever they hold: the entry that a router finds, what arriving and leaving give case by case, and what is told and
-- written of a whole packet.
-- Assumes nothing.
use mathlib.Core.Path.{◌≡◌, refl, sym, ◌∙◌, ap, ap₂}
use mathlib.Core.Logic.{◌≢◌}
use mathlib.Core.Bool.{Bool, true, false}
use mathlib.Core.List.{List, [], ◌∷◌, ◌++◌}
use Prim.Native.Nat.{ℕ, zero, suc, ◌+◌, ◌-◌, ◌^◌, ◌≤◌, ◌<◌}
use native.Mathlib.Nat.{zero-add, add-zero}
use native.Mathlib.Numerals.{add-one}
use native.Mathlib.Omega.{arith}
use lib.Dec.{eqb}
use lib.ListN.{length, get_or, get_or-append, take, drop, set, replicate}
use lib.Seq.{get_or-drop, sets, sets-eq, take-append_seam}
use Rattle.rules.specs.Words.{pick}
use Rattle.rules.specs.NextHops.{has}
use Rattle.rules.specs.Entries.{Entry, deliver, discard, no_route, forward, starts_here, entry_by}
use Rattle.rules.specs.Paths.{Choice, Outcome, delivered, discarded, unrouted, lost, Path, Site, old_view, new_view, by, ended, crossed, follow, arrive, leave, entry_at, listed, path_in}
use Rattle.rules.proofs.Basics.{same_everywhere}
use Rattle.rules.proofs.Sets.{member_below}
use Rattle.rules.proofs.Entries.{home_delivers}
use Rattle.entries.specs.declared.Entry.{Entry as EntryHere}
use Rattle.entries.specs.declared.Entry.TheVariants.{Deliver, Discard, NoRoute as NoRoute', Forward}
use Rattle.entries.specs.Entries.{entry_told, pipo}
use Rattle.paths.specs.declared.Outcome.{Outcome as OutcomeHere}
use Rattle.paths.specs.declared.Outcome.TheVariants.{Delivered, Discarded, NoRoute, Lost}
use Rattle.paths.specs.declared.Ending.{Ending}
use Rattle.paths.specs.declared.Guides.{Guides}
use Rattle.paths.specs.declared.Site.{Site as SiteHere}
use Rattle.paths.specs.declared.Visited.{Visited}
use Rattle.paths.specs.Following.{sets_in_view, rules_over, site_over, outcome_told, Ends, written, Standing, arriving, leaving, Arrives, Leaves, Lent, path_over}

-- ---- the entry that a router finds

module _ (s : SiteHere) (i j hops : ℕ) where
  -- by the view that the byte of this hop says
  abbrev found : Entry
  found = entry_at (site_over s.destination s.guides.now) (listed s.views.now) hops i j

  pub found_home : i ≡ s.destination → entry_told Deliver ≡ found
  unfolding entry_told site_over
  found_home e = sym (home_delivers _ i j s.destination e)

  pub found_by : (sets : List ℕ) → sets ≡ sets_in_view s.guides.now (get_or s.views.now hops 0)
      → (r : EntryHere) → entry_told r ≡ entry_by (pipo (get_or sets i 0)) i j s.destination → entry_told r ≡ found
  unfolding entry_by rules_over listed site_over sets_in_view
  found_by sets e r q = go (eqb (get_or s.views.now hops 0) 1) (rw e at q)
    where
      g : Guides
      g = s.guides.now

      go : (new : Bool) → entry_told r ≡ entry_by (pipo (get_or (pick new g.new g.old) i 0)) i j s.destination
          → entry_told r ≡ entry_by (rules_over (by (pick new new_view old_view) g.old g.new)) i j s.destination
      go true q = q
      go false q = q

-- ---- leaving

-- what arriving at k asks for
pub standing_there : (i k hops left set : ℕ) → Standing i hops left
    → set < 2 ^ 64 → has set k ≡ true → left ≢ 0 → Standing k (hops + 1) (left - 1)
standing_there i k hops left set s f c n = record { router = member_below set k f c; few = omega (arith, s.few) }

module _ (s : SiteHere) (i k hops : ℕ) where
  -- what happens from k on, with so many hops left
  abbrev there : ℕ → Path
  there left = arriving s k i (hops + 1) left

  -- leaving for k
  abbrev gone : ℕ → Path
  gone left = leaving s i k hops left

  -- the trace begins with the router that is left
  from_here : (left : ℕ) → (gone left).trace ≡ i ∷ drop 1 (gone left).trace
  unfolding leaving
  from_here zero = refl
  from_here (suc left) = go ((site_over s.destination s.guides.now).carries i k) (arriving s k i (suc hops) left)
    where
      go : (b : Bool) (t : Path) → (pick b (crossed i t) (ended lost i)).trace ≡ i ∷ drop 1 (pick b (crossed i t) (ended lost i)).trace
      go true t = refl
      go false t = refl

  module _ (left : ℕ) (lent : Visited) where
    -- with no hop left the packet is lost here
    pub none_left : lent.hops ≡ hops → left ≡ 0 → Leaves s i k hops left lent Lost lent
    unfolding leaving outcome_told
    none_left h z = rw (z, add-zero hops) (refl, refl, h)

    -- and so it is over a link that does not carry
    pub left_lost : lent.hops ≡ hops → has (get_or s.guides.now.carriers i 0) k ≡ false → Leaves s i k hops left lent Lost lent
    unfolding leaving site_over outcome_told
    left_lost h c = go left
      where
        go : (left : ℕ) → Leaves s i k hops left lent Lost lent
        go zero = rw (add-zero hops) (refl, refl, h)
        go (suc left) = rw (c, add-zero hops) (refl, refl, h)

    -- one that carries is crossed
    pub left_over : has (get_or s.guides.now.carriers i 0) k ≡ true → left ≢ 0
        → (r : OutcomeHere) (after : Visited) → Arrives s k i (hops + 1) (left - 1) lent r after → Leaves s i k hops left lent r after
    unfolding leaving site_over
    left_over c n r after (p, q, l) = rw (over left n) (p, q, omega (arith, l))
      where
        over : (left : ℕ) → left ≢ 0 → gone left ≡ crossed i (there (left - 1))
        over zero n = absurd (n refl)
        over (suc left) n =
            let e : suc left - 1 ≡ left = omega arith in
            rw (e, add-one hops, c)

-- ---- arriving

module _ (s : SiteHere) (i j hops : ℕ) where
  -- arriving, with so many hops left
  abbrev come : ℕ → Path
  come left = arriving s i j hops left

  -- the entry that was found, as the code tells it
  module _ (t : EntryHere) (q : entry_told t ≡ found s i j hops) where
    -- it is applied
    applied : (left : ℕ) → come left ≡ arrive i (λ k. leaving s i k hops left) (entry_told t)
    unfolding follow leaving
    applied zero = rw q
    applied (suc left) = rw q

    -- this router is written
    module _ (left : ℕ) (lent visited : Visited) (v : (visited.routers ≡ set lent.routers hops i) × (visited.hops ≡ hops)) where
      -- the packet ends here
      ends_as : (r : OutcomeHere) → come left ≡ ended (outcome_told r) i → Arrives s i j hops left lent r visited
      ends_as r e = rw (e, add-zero hops) (refl, v.0, v.1)

      pub delivers_here : t ≡ Deliver → Arrives s i j hops left lent Delivered visited
      unfolding entry_told outcome_told
      delivers_here e = ends_as Delivered (applied left ∙ rw e)

      pub discards_here : t ≡ Discard → Arrives s i j hops left lent Discarded visited
      unfolding entry_told outcome_told
      discards_here e = ends_as Discarded (applied left ∙ rw e)

      pub no_route_here : t ≡ NoRoute' → Arrives s i j hops left lent NoRoute visited
      unfolding entry_told outcome_told
      no_route_here e = ends_as NoRoute (applied left ∙ rw e)

      -- or leaves for k
      pub leaves_here : (k : ℕ) → t ≡ Forward k
          → (r : OutcomeHere) (after : Visited) → Leaves s i k hops left visited r after → Arrives s i j hops left lent r after
      unfolding entry_told
      leaves_here k e r after (p, w, l) = rw leaves (p, rw (from_here s i k hops left) (rw (add-one hops, v.0) at w), l)
        where
          leaves : come left ≡ leaving s i k hops left
          leaves = applied left ∙ rw e

-- ---- a path is short

-- it ends after no more hops than were left, and its trace has one router more, the last of which is where it ended
record Short (left : ℕ) (path : Path) : Type 0 where
  within : path.hops ≤ left
  counted : length path.trace ≡ suc path.hops
  last : get_or path.trace path.hops 0 ≡ path.router

ends_short : (left : ℕ) (o : Outcome) (i : ℕ) → Short left (ended o i)
ends_short left o i = record { within = omega arith; counted = refl; last = refl }

module _ (site : Site) (choice : Choice) where
  short : (left n i j : ℕ) → Short left (follow site choice left n i j)
  unfolding follow
  short zero n i j = go (entry_at site choice n i j)
    where
      go : (e : Entry) → Short 0 (arrive i (λ k. ended lost i) e)
      go deliver = ends_short 0 delivered i
      go discard = ends_short 0 discarded i
      go no_route = ends_short 0 unrouted i
      go (forward k) = ends_short 0 lost i
  short (suc left) n i j = go (entry_at site choice n i j) (λ k. short left (suc n) k i)
    where
      go : (e : Entry) → ((k : ℕ) → Short left (follow site choice left (suc n) k i))
          → Short (suc left) (arrive i (λ k. leave site i k (follow site choice left (suc n) k i)) e)
      go deliver ih = ends_short (suc left) delivered i
      go discard ih = ends_short (suc left) discarded i
      go no_route ih = ends_short (suc left) unrouted i
      go (forward k) ih = over (site.carries i k)
        where
          over : (c : Bool) → Short (suc left) (pick c (crossed i (follow site choice left (suc n) k i)) (ended lost i))
          over true = let s = ih k in record { within = omega (arith, s.within); counted = ap suc s.counted; last = s.last }
          over false = ends_short (suc left) lost i

-- ---- one packet

-- behind a list zeros change nothing
padded : (xs zs : List ℕ) → ((k : ℕ) → get_or zs k 0 ≡ 0) → (m : ℕ) → get_or (xs ++ zs) m 0 ≡ get_or xs m 0
padded [] zs h m = h m
padded (x ∷ xs) zs h zero = refl
padded (x ∷ xs) zs h (suc m) = padded xs zs h m

module _ (guides : Guides) (routers s d : ℕ) (views : List ℕ) (lent : Lent routers s views) where
  abbrev path : Path
  path = path_over guides routers s d views

  short_path : Short (routers - 1) path
  unfolding path_over path_in
  short_path = short (site_over d guides) (listed (take (routers - 1) views)) (routers - 1) 0 s starts_here

  path_few : path.hops < routers
  path_few = omega (arith, short_path.within, lent.some)

  -- The list holds the first N − 1 views and zeros behind them, and the packet was followed by it, from its source on.
  module _ (list : List ℕ) where
    abbrev by_list : Path
    by_list = follow (site_over d guides) (listed list) (routers - 1) 0 s starts_here

    abbrev HoldsViews : Type 0
    HoldsViews = list ≡ take (routers - 1) views ++ drop (routers - 1) (replicate 64 0)

    same_byte : HoldsViews → (m : ℕ) → get_or list m 0 ≡ get_or (take (routers - 1) views) m 0
    same_byte l m =
        ap (λ v. get_or v m 0) l
        ∙ padded (take (routers - 1) views) (drop (routers - 1) (replicate 64 0))
        (λ k. get_or-drop (routers - 1) (replicate 64 0) k 0 ∙ same_everywhere 0 64 (routers - 1 + k))
        m

    followed : HoldsViews → by_list ≡ path
    unfolding path_over path_in listed
    followed l =
        ap (λ choice. follow (site_over d guides) choice (routers - 1) 0 s starts_here) (λ z i m. pick (eqb (same_byte l m z) 1) new_view old_view)

    module _ (blank after : Visited) (places : length blank.routers ≡ 64) (r : OutcomeHere)
        (a : (outcome_told r ≡ by_list.outcome) × (after.routers ≡ sets blank.routers 0 by_list.trace) × (after.hops ≡ 0 + by_list.hops))
        (l : HoldsViews) where
      hops_told : after.hops ≡ path.hops
      hops_told = a.2 ∙ zero-add by_list.hops ∙ ap (λ (p : Path). p.hops) (followed l)

      pub in_places : after.hops < 64
      in_places = omega (arith, hops_told, path_few, lent.few)

      pub visited_told : after.routers ≡ written path blank.routers
      visited_told =
          a.1
          ∙ ap (λ (p : Path). sets blank.routers 0 p.trace) (followed l)
          ∙ sets-eq path.trace blank.routers 0 (omega (arith, short_path.counted, short_path.within, lent.some, lent.few, places))
          ∙ ap (λ k. path.trace ++ drop k blank.routers) (zero-add (length path.trace))

      -- the last router that was visited is where it ended
      last_told : get_or after.routers after.hops 0 ≡ path.router
      last_told =
          ap₂ (λ v k. get_or v k 0) visited_told hops_told
          ∙ get_or-append path.trace _ 0 path.hops (omega (arith, short_path.counted))
          ∙ short_path.last

      pub ending_told : Ends (record { outcome = r; router = get_or after.routers after.hops 0; hops = after.hops }) path
      ending_told = (a.0 ∙ ap (λ (p : Path). p.outcome) (followed l), last_told, hops_told)

  -- it has ended
  module _ (e : Ending) (q : Ends e path) where
    -- after fewer hops than there are routers
    pub few_hops : e.hops < routers
    few_hops = omega (arith, q.2, path_few)

    -- handed over, the visited routers stand in front of a trace
    pub told_trace : (visited blank : List ℕ) → visited ≡ written path blank
        → (trace : List ℕ) → take (e.hops + 1) visited ++ drop (e.hops + 1) trace ≡ written path trace
    told_trace visited blank w trace =
        ap (λ k. take k visited ++ drop k trace) (omega (arith, q.2, short_path.counted))
        ∙ ap (λ t. t ++ drop (length path.trace) trace) front
      where
        front : take (length path.trace) visited ≡ path.trace
        front = ap (take (length path.trace)) w ∙ take-append_seam path.trace _
