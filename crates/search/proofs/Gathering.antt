-- First hops in the search for costs: what holds of the sets while routers wait, and that they are the next-hop sets when none does.
-- Assumes nothing.
use mathlib.Core.Path.{◌≡◌, refl, sym, ◌∙◌, ap}
use mathlib.Core.Logic.{◌⊎◌, inl, inr}
use mathlib.Core.Bool.{Bool, true, false, ◌||◌, or-true, or-false, false≢true}
use mathlib.Core.List.{List}
use Prim.Native.Nat.{ℕ, ◌+◌, ◌-◌, ◌^◌, ◌≤◌, ◌<◌}
use native.Mathlib.Decide.{ℕ_discrete, dec_lt}
use native.Mathlib.Omega.{arith}
use lib.Bits.{bit_or}
use lib.ListN.{get_or, set, replicate}
use lib.Seq.{ext_get_or}
use Rattle.rules.specs.Costs.{no_cost, best}
use Rattle.rules.specs.NextHops.{has, set_of}
use Rattle.rules.proofs.Basics.{neither, strong, value_at, length_values}
use Rattle.rules.proofs.CostLaws.{Net}
use Rattle.rules.proofs.Sets.{set_below, set_has, has_below}
use Rattle.sets.proofs.Bits.{taken_out, others_stay, has_joined}
use Rattle.sets.proofs.ByMembers.{nobody, set_by}
use Rattle.search.specs.Search.{as_cheap, costs_from, hops_over, sets_from, found_from, cost_at}
use Rattle.search.specs.declared.Found.{Found}
use Rattle.search.specs.Steps.{AreSets, IsNearest, falls, handed, eased, fallen, carried}
use Rattle.search.proofs.Arrays.{cost_top, empty_are, none_inside}
use Rattle.search.proofs.OneLink.{cheaper_says, is_as_cheap, as_cheap_says}
use Rattle.search.proofs.FirstHops.{FirstHop, First, first_so, last_first, first_last}
use Rattle.search.proofs.Searching.{Waiting, stays, fell, no_higher, first_step, first_others, least_found}
use Rattle.search.proofs.Carrying.{Renewal, anew, joined, kept, handed_says, says_handed, carried_are, carried_on}

-- Router p does not wait, a link leads from it to k at k's cost, and j is k itself where p is s, else a first hop to p.
pub record Over (w : ℕ → ℕ → ℕ) (s : ℕ) (costs : List ℕ) (waiting : ℕ) (sets : List ℕ) (p k j : ℕ) : Type 0 where
  pub passed : has waiting p ≡ false
  pub link : 0 < w p k
  pub sums : w p k + cost_at costs p ≡ cost_at costs k
  pub first : First s p k j (has (get_or sets p 0) j ≡ true)

-- No router with a cost that does not wait is farther than one that waits, and the first hops are those over routers that do not wait.
pub record Gathered (w : ℕ → ℕ → ℕ) (s : ℕ) (costs : List ℕ) (waiting : ℕ) (sets : List ℕ) : Type 0 where
  pub are : AreSets sets
  pub nearer : (x y : ℕ) → has waiting x ≡ false → cost_at costs x < no_cost → has waiting y ≡ true → cost_at costs x ≤ cost_at costs y
  pub sound : (k j : ℕ) → has (get_or sets k 0) j ≡ true → (p : ℕ) × Over w s costs waiting sets p k j
  pub whole : (p k j : ℕ) → Over w s costs waiting sets p k j → has (get_or sets k 0) j ≡ true

-- at first only s has a cost, and it waits
pub none_gathered : (w : ℕ → ℕ → ℕ) (s : ℕ) → s < 64 → (none : List ℕ) → none ≡ replicate 64 no_cost → (bit : ℕ) → bit ≡ 2 ^ s
    → (sets : List ℕ) → sets ≡ replicate 64 0 → Gathered w s (set none s 0) bit sets
none_gathered w s h none n bit b sets e = record {
  are = empty_are sets e;
  nearer = λ x y a f t. absurd (omega (arith, far x a));
  sound = λ k j t. absurd (false≢true (sym (none_inside sets e k j) ∙ t));
  whole = λ p k j v. absurd (omega (arith, v.link, v.sums, far p v.passed, cost_top (set none s 0) o.are k));
}
  where
    o : Waiting w s (set none s 0) bit
    o = first_step w s h none n bit b

    far : (k : ℕ) → has bit k ≡ false → cost_at (set none s 0) k ≡ no_cost
    far = first_others w s none n bit b

-- ---- one router passes its first hops on

module _ {w : ℕ → ℕ → ℕ} (𝓝 : Net 64 w) (s : ℕ) (costs : List ℕ) (waiting : ℕ) (o : Waiting w s costs waiting) (sets : List ℕ)
    (g : Gathered w s costs waiting sets) (m : ℕ) (q : IsNearest costs waiting m) where
  abbrev c : ℕ → ℕ
  c = cost_at costs

  abbrev c' : ℕ → ℕ
  c' = cost_at (eased w costs m)

  abbrev waiting' : ℕ
  waiting' = bit_or (waiting - 2 ^ m) (fallen w costs m)

  abbrev sets' : List ℕ
  sets' = carried w costs s sets m

  -- ---- costs, and who waits

  fallen_is : (x : ℕ) → has (fallen w costs m) x ≡ falls w costs m x
  unfolding fallen
  fallen_is x = go (dec_lt x 64) (falls w costs m x) refl
    where
      go : Dec (x < 64) → (t : Bool) → falls w costs m x ≡ t → has (set_of (falls w costs m) 64) x ≡ t
      go (yes h) t f = set_has (falls w costs m) 64 x h ∙ f
      go (no h) true f = absurd (omega (arith, (𝓝.inside m x (cheaper_says (w m x) (c m) (c x) f).0).1))
      go (no h) false f = has_below (set_of (falls w costs m) 64) 64 x (set_below (falls w costs m) 64) (omega arith)

  waits_after : (x : ℕ) → has waiting' x ≡ (has (waiting - 2 ^ m) x || falls w costs m x)
  waits_after x = has_joined x (waiting - 2 ^ m) (fallen w costs m) ∙ ap (λ b. has (waiting - 2 ^ m) x || b) (fallen_is x)

  fell_to : (k : ℕ) → falls w costs m k ≡ true → (0 < w m k) × (c' k ≡ w m k + c m) × (c' k < c k)
  fell_to k f = fell w costs o.are m k (𝓝.inside m k (cheaper_says (w m k) (c m) (c k) f).0).1 f

  -- router m, or one that did not wait before
  abbrev PassedOn : ℕ → Type 0
  PassedOn x = (x ≡ m) ⊎ (has waiting x ≡ false)

  -- none of them is farther than m
  passed_near : (x : ℕ) → PassedOn x → c x < no_cost → c x ≤ c m
  passed_near x (inl e) h = omega (arith, ap c e)
  passed_near x (inr f) h = g.nearer x m f h q.member

  -- what is no farther than m does not fall
  not_fallen : (x : ℕ) → c x ≤ c m → falls w costs m x ≡ false
  not_fallen x h = go (falls w costs m x) refl
    where
      go : (t : Bool) → falls w costs m x ≡ t → t ≡ false
      go true f = absurd (omega (arith, (cheaper_says (w m x) (c m) (c x) f).1))
      go false f = refl

  -- and so keeps its cost
  near_same : (x : ℕ) → c x ≤ c m → c' x ≡ c x
  near_same x h = stays w costs o.are m x (not_fallen x h)

  -- after m those that passed their costs on, and no others, do not wait
  out : (x : ℕ) → PassedOn x → has (waiting - 2 ^ m) x ≡ false
  out x v = go v (ℕ_discrete x m)
    where
      go : PassedOn x → Dec (x ≡ m) → has (waiting - 2 ^ m) x ≡ false
      go v (yes e) = ap (has (waiting - 2 ^ m)) e ∙ taken_out m waiting q.member
      go (inl e) (no a) = absurd (a e)
      go (inr f) (no a) = others_stay m waiting x q.member a ∙ f

  waits_no_more : (x : ℕ) → PassedOn x → c x ≤ c m → has waiting' x ≡ false
  waits_no_more x v h = waits_after x ∙ rw (out x v, not_fallen x h)

  waited_no_more : (x : ℕ) → has waiting' x ≡ false → (falls w costs m x ≡ false) × PassedOn x
  waited_no_more x e =
      let (f, n) = neither (has (waiting - 2 ^ m) x) (falls w costs m x) (sym (waits_after x) ∙ e) in
      (n, go f (ℕ_discrete x m))
    where
      go : has (waiting - 2 ^ m) x ≡ false → Dec (x ≡ m) → PassedOn x
      go f (yes e) = inl e
      go f (no a) = inr (sym (others_stay m waiting x q.member a) ∙ f)

  -- what waits afterwards is no nearer than m
  waits_behind : (y : ℕ) → has waiting' y ≡ true → c m ≤ c' y
  waits_behind y e = go (falls w costs m y) refl (ℕ_discrete y m) (sym (waits_after y) ∙ e)
    where
      go : (t : Bool) → falls w costs m y ≡ t → Dec (y ≡ m) → (has (waiting - 2 ^ m) y || t) ≡ true → c m ≤ c' y
      go true f d h = omega (arith, (fell_to y f).1)
      go false f (yes a) h = absurd (false≢true (sym (out y (inl a)) ∙ sym (or-false (has (waiting - 2 ^ m) y)) ∙ h))
      go false f (no a) h =
          let r : has waiting y ≡ true = sym (others_stay m waiting y q.member a) ∙ sym (or-false (has (waiting - 2 ^ m) y)) ∙ h in
          omega (arith, q.least y r, stays w costs o.are m y f)

  nearer_after : (x y : ℕ) → has waiting' x ≡ false → c' x < no_cost → has waiting' y ≡ true → c' x ≤ c' y
  nearer_after x y a h b =
      let (f, v) = waited_no_more x a in
      let e = stays w costs o.are m x f in
      omega (arith, passed_near x v (omega arith), waits_behind y b)

  -- ---- sets

  -- router k's first hops, before and afterwards
  abbrev Reached : ℕ → Type 0
  Reached k = Renewal (w m k) (c m) (c k) (get_or sets k 0) (handed sets s m k) (get_or sets' k 0)

  reached : (k : ℕ) → Reached k
  reached = carried_on 𝓝 costs s sets g.are m

  -- the set of a router that is no farther than m stays
  set_stays : (x : ℕ) → c x ≤ c m → get_or sets' x 0 ≡ get_or sets x 0
  set_stays x h = go (reached x)
    where
      go : Reached x → get_or sets' x 0 ≡ get_or sets x 0
      go (anew f e) = absurd (false≢true (sym (not_fallen x h) ∙ f))
      go (joined f l u e) = absurd (omega arith)
      go (kept f u e) = e

  -- ---- first hops

  abbrev Before : ℕ → ℕ → ℕ → Type 0
  Before = Over w s costs waiting sets

  abbrev After : ℕ → ℕ → ℕ → Type 0
  After = Over w s (eased w costs m) waiting' sets'

  -- what led over p still does, where k's cost did not fall
  over_on : (p k j : ℕ) → falls w costs m k ≡ false → Before p k j → After p k j
  over_on p k j f v =
      let h = passed_near p (inr v.passed) (omega (arith, v.link, v.sums, cost_top costs o.are k)) in
      record {
        passed = waits_no_more p (inr v.passed) h;
        link = v.link;
        sums = omega (arith, v.sums, near_same p h, stays w costs o.are m k f);
        first = first_so (λ e. ap (λ n. has n j) (set_stays p h) ∙ e) v.first;
      }

  -- what m hands on leads over m
  over_m : (k j : ℕ) → 0 < w m k → w m k + c m ≡ c' k → has (handed sets s m k) j ≡ true → After m k j
  over_m k j l e h = record {
    passed = waits_no_more m (inl refl) (omega arith);
    link = l;
    sums = omega (arith, near_same m (omega arith));
    first = first_so (λ t. ap (λ n. has n j) (set_stays m (omega arith)) ∙ t) (handed_says sets s m k j h);
  }

  sound_after : (k j : ℕ) → has (get_or sets' k 0) j ≡ true → (p : ℕ) × After p k j
  sound_after k j h = go (reached k)
    where
      old : falls w costs m k ≡ false → has (get_or sets k 0) j ≡ true → (p : ℕ) × After p k j
      old f e =
          let (p, v) = g.sound k j e in
          (p, over_on p k j f v)

      go : Reached k → (p : ℕ) × After p k j
      go (anew f e) =
          let (l, u, z) = fell_to k f in
          (m, over_m k j l (sym u) (ap (λ n. has n j) (sym e) ∙ h))
      go (kept f u e) = old f (ap (λ n. has n j) (sym e) ∙ h)
      go (joined f l u e) =
          either (has (get_or sets k 0) j) refl (sym (has_joined j (get_or sets k 0) (handed sets s m k)) ∙ ap (λ n. has n j) (sym e) ∙ h)
        where
          either : (t : Bool) → has (get_or sets k 0) j ≡ t → (t || has (handed sets s m k) j) ≡ true → (p : ℕ) × After p k j
          either true a b = old f a
          either false a b = (m, over_m k j l (u ∙ sym (stays w costs o.are m k f)) b)

  whole_after : (p k j : ℕ) → After p k j → has (get_or sets' k 0) j ≡ true
  whole_after p k j v = go (reached k) (waited_no_more p v.passed).1
    where
      same : c' p ≡ c p
      same = stays w costs o.are m p (waited_no_more p v.passed).0

      near : c p ≤ c m
      near =
          passed_near p (waited_no_more p v.passed).1
          (omega (arith, v.link, v.sums, same, no_higher w costs o.are m k, cost_top costs o.are k))

      first : First s p k j (has (get_or sets p 0) j ≡ true)
      first = first_so (λ e. ap (λ n. has n j) (sym (set_stays p near)) ∙ e) v.first

      from_m : p ≡ m → has (handed sets s m k) j ≡ true
      from_m e = says_handed sets s m k j (rw e at first)

      before : has waiting p ≡ false → falls w costs m k ≡ false → has (get_or sets k 0) j ≡ true
      before a f =
          g.whole p k j
          (record { passed = a; link = v.link; sums = omega (arith, v.sums, same, stays w costs o.are m k f); first = first })

      go : Reached k → PassedOn p → has (get_or sets' k 0) j ≡ true
      go (anew f e) (inl a) = ap (λ n. has n j) e ∙ from_m a
      go (anew f e) (inr a) = absurd (omega (arith, o.relaxed k p v.link a, (fell_to k f).2, v.sums, same))
      go (joined f l u e) (inl a) =
          ap (λ n. has n j) e ∙ has_joined j (get_or sets k 0) (handed sets s m k)
          ∙ ap (λ b. has (get_or sets k 0) j || b) (from_m a) ∙ or-true (has (get_or sets k 0) j)
      go (joined f l u e) (inr a) =
          ap (λ n. has n j) e ∙ has_joined j (get_or sets k 0) (handed sets s m k) ∙ ap (λ b. b || has (handed sets s m k) j) (before a f)
      go (kept f u e) (inl a) =
          let l : 0 < w m k = rw a at v.link in
          absurd (omega (arith, u l, v.sums, same, stays w costs o.are m k f, ap (λ n. w n k) a, ap c a))
      go (kept f u e) (inr a) = ap (λ n. has n j) e ∙ before a f

  one_on : Gathered w s (eased w costs m) waiting' sets'
  one_on = record { are = carried_are 𝓝 costs s sets g.are m; nearer = nearer_after; sound = sound_after; whole = whole_after }

  -- one step of the code, by its results
  pub one_gathered : (bit : ℕ) → bit ≡ 2 ^ m → (fell : ℕ) → fell ≡ fallen w costs m → (next : List ℕ) → next ≡ eased w costs m
      → (more : List ℕ) → more ≡ carried w costs s sets m → Gathered w s next (bit_or (waiting - bit) fell) more
  one_gathered bit b fell f next n more r = rw (b, f, n, r) one_on

-- ---- at the end

module _ {w : ℕ → ℕ → ℕ} (𝓝 : Net 64 w) (s : ℕ) where
  -- the members of d's set are the first hops to d
  abbrev Members : List ℕ → ℕ → Type 0
  Members sets d = (j : ℕ) → (has (get_or sets d 0) j ≡ true → FirstHop w s d j) × (FirstHop w s d j → has (get_or sets d 0) j ≡ true)

  by_members : (sets : List ℕ) → AreSets sets → ((d : ℕ) → Members sets d) → sets ≡ sets_from w s
  unfolding sets_from hops_over
  by_members sets a is =
      ext_get_or 0 sets (sets_from w s) (a.long ∙ sym (length_values (λ d. set_of (test d) 64) 64))
      (λ d h. set_by (test d) 64 (get_or sets d 0) (a.fit d) (λ k l. has_test d k)
      ∙ sym (value_at (λ d. set_of (test d) 64) 64 d 0 (omega (arith, a.long))))
    where
      test : ℕ → ℕ → Bool
      test d k = as_cheap (w s k) (best w 64 k d) (best w 64 s d)

      hops_test : (d j : ℕ) → FirstHop w s d j → test d j ≡ true
      hops_test d j h = is_as_cheap (w s j) (best w 64 j d) (best w 64 s d) h.link h.sums

      test_hops : (d j : ℕ) → test d j ≡ true → FirstHop w s d j
      test_hops d j e =
          let b = as_cheap_says (w s j) (best w 64 j d) (best w 64 s d) e in
          record { link = b.0; sums = b.1 }

      has_test : (d j : ℕ) → has (get_or sets d 0) j ≡ test d j
      has_test d j = go _ _ refl refl
        where
          go : (a b : Bool) → has (get_or sets d 0) j ≡ a → test d j ≡ b → a ≡ b
          go true true p q = refl
          go true false p q = sym (hops_test d j ((is d j).0 p)) ∙ q
          go false true p q = sym p ∙ (is d j).1 (test_hops d j q)
          go false false p q = refl

  -- no router waits: the sets are the next-hop sets
  pub all_gathered : (costs : List ℕ) (waiting : ℕ) (sets : List ℕ) → Waiting w s costs waiting → Gathered w s costs waiting sets → waiting ≡ 0
      → sets ≡ sets_from w s
  all_gathered costs waiting sets o g z = by_members sets g.are (strong (best w 64 s) (Members sets) each)
    where
      least : (i : ℕ) → cost_at costs i ≡ best w 64 s i
      least = least_found w 𝓝 s costs waiting o z

      each : (d : ℕ) → ((p : ℕ) → best w 64 s p < best w 64 s d → Members sets p) → Members sets d
      each d ih j = (sound, whole)
        where
          sound : has (get_or sets d 0) j ≡ true → FirstHop w s d j
          sound h =
              let (p, v) = g.sound d j h in
              let e : best w 64 s p + w p d ≡ best w 64 s d = omega (arith, v.sums, least p, least d) in
              last_first 𝓝 s d j p (record { link = v.link; sums = e; first = first_so (ih p (omega (arith, v.link)) j).0 v.first })

          whole : FirstHop w s d j → has (get_or sets d 0) j ≡ true
          whole h =
              let (p, v) = first_last 𝓝 s d j h in
              g.whole p d j (record {
                passed = ap (λ n. has n p) z ∙ nobody p;
                link = v.link;
                sums = omega (arith, v.sums, least p, least d);
                first = first_so (ih p (omega (arith, v.link, v.sums)) j).1 v.first;
              })

  -- a number that is no router's has no links
  pub no_router : (sets : List ℕ) → sets ≡ replicate 64 0 → 64 ≤ s → sets ≡ sets_from w s
  no_router sets e h =
      by_members sets (empty_are sets e)
      (λ d j. (λ t. absurd (false≢true (sym (none_inside sets e d j) ∙ t)), λ f. absurd (omega (arith, (𝓝.inside s j f.link).0))))

-- costs and sets together
pub both_found : (w : ℕ → ℕ → ℕ) (s : ℕ) (costs sets : List ℕ) → costs ≡ costs_from w s → sets ≡ sets_from w s
    → ◌≡◌ {A = Found} (record { costs = costs; sets = sets }) (found_from w s)
unfolding found_from
both_found w s costs sets p q = λ i. record { costs = p i; sets = q i }
