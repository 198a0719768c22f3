-- The search for costs: what holds while routers wait, why the search ends, and that the costs are then the least ones.
-- Assumes nothing.
use mathlib.Core.Path.{◌≡◌, refl, sym, ◌∙◌, ap}
use mathlib.Core.Logic.{◌≢◌}
use mathlib.Core.Bool.{Bool, true, false, false≢true}
use mathlib.Core.List.{List, map}
use Prim.Native.Nat.{ℕ, zero, suc, ◌+◌, ◌-◌, ◌*◌, ◌^◌, ◌≤◌, ◌<◌}
use native.Mathlib.Decide.{ℕ_discrete, dec_lt}
use native.Mathlib.Omega.{arith}
use lib.Bits.{bit_or, or_lt, or_zero_r}
use lib.Count.{count_trailing_zeros}
use lib.ListN.{length, get_or, set, replicate, length-replicate, get_or-eq_default}
use lib.Pow.{pow-lt, pow_pos}
use lib.Seq.{ext_get_or, get_or-set_other}
use Rattle.rules.specs.Words.{below}
use Rattle.rules.specs.Routes.{Route, arrived, via}
use Rattle.rules.specs.Costs.{no_cost, best}
use Rattle.rules.specs.NextHops.{has}
use Rattle.rules.specs.Demand2.{Certified}
use Rattle.rules.proofs.Basics.{any_default, neither, pick_t, pick_f, value_at, length_values}
use Rattle.rules.proofs.CostLaws.{Net}
use Rattle.rules.proofs.LeastCost.{certified_is_best, best_turned, out_of_reach}
use Rattle.rules.proofs.Sets.{set_below, set_has, has_below, trailing, member_below}
use Rattle.sets.proofs.ByMembers.{own_bit}
use Rattle.sets.proofs.Bits.{member_weight, others_stay, has_joined}
use Rattle.search.specs.Search.{costs_from, cost_at}
use Rattle.search.specs.Steps.{IsNearest, falls, lowered, eased, fallen}
use Rattle.search.proofs.Arrays.{AreCosts, cost_top, cost_written, written_costs, no_costs_are, no_cost_at}
use Rattle.search.proofs.OneLink.{is_cheaper, cheaper_says}
use Rattle.search.proofs.FirstHops.{turned_net}

-- ---- sums, for the measure

-- the sum of f over 0 to n − 1
pub sum : (ℕ → ℕ) → ℕ → ℕ
sum f zero = 0
sum f (suc n) = f n + sum f n

module _ (f g : ℕ → ℕ) (less : (x : ℕ) → f x ≤ g x) where
  sum_mono : (n : ℕ) → sum f n ≤ sum g n
  unfolding sum
  sum_mono zero = omega arith
  sum_mono (suc n) = omega (arith, less n, sum_mono n)

  sum_falls : (n x : ℕ) → x < n → f x < g x → sum f n < sum g n
  unfolding sum
  sum_falls zero x b l = absurd (omega arith)
  sum_falls (suc n) x b l = go (ℕ_discrete x n) (sum_falls n x)
    where
      go : Dec (x ≡ n) → (x < n → f x < g x → sum f n < sum g n) → f n + sum f n < g n + sum g n
      go (yes e) ih =
          let l' : f n < g n = rw e at l in
          omega (arith, sum_mono n)
      go (no e) ih = omega (arith, less n, ih (omega arith) l)

-- what falls at each step: the costs' sum, or where no cost falls the waiting set
abbrev pub left_over : List ℕ → ℕ → ℕ
left_over costs waiting = 18446744073709551616 * sum (cost_at costs) 64 + waiting

-- ---- one router's links

module _ (w : ℕ → ℕ → ℕ) (costs : List ℕ) (a : AreCosts costs) (m : ℕ) where
  abbrev next : ℕ → ℕ
  next = cost_at (eased w costs m)

  eased_at : (k : ℕ) → k < 64 → next k ≡ lowered w costs m k
  unfolding eased
  eased_at k h = value_at (lowered w costs m) 64 k no_cost h

  eased_long : length (eased w costs m) ≡ 64
  unfolding eased
  eased_long = length_values (lowered w costs m) 64

  -- behind the arrays' end
  behind : (k : ℕ) → 64 ≤ k → next k ≡ cost_at costs k
  behind k h =
      get_or-eq_default (eased w costs m) no_cost {n = k} (omega (arith, eased_long))
      ∙ sym (get_or-eq_default costs no_cost {n = k} (omega (arith, a.long)))

  -- a cost that did not fall
  pub stays : (k : ℕ) → falls w costs m k ≡ false → next k ≡ cost_at costs k
  stays k f = go (dec_lt k 64)
    where
      go : Dec (k < 64) → next k ≡ cost_at costs k
      go (yes h) = eased_at k h ∙ pick_f _ _ _ f
      go (no h) = behind k (omega arith)

  -- one that fell
  pub fell : (k : ℕ) → k < 64 → falls w costs m k ≡ true → (0 < w m k) × (next k ≡ w m k + cost_at costs m) × (next k < cost_at costs k)
  fell k h f =
      let s = cheaper_says (w m k) (cost_at costs m) (cost_at costs k) f in
      let e : next k ≡ w m k + cost_at costs m = eased_at k h ∙ pick_t _ _ _ f in
      (s.0, e, omega (arith, s.1))

  pub no_higher : (k : ℕ) → next k ≤ cost_at costs k
  no_higher k = go (dec_lt k 64) (falls w costs m k) refl
    where
      go : Dec (k < 64) → (b : Bool) → falls w costs m k ≡ b → next k ≤ cost_at costs k
      go (no h) b f = omega (arith, behind k (omega arith))
      go (yes h) false f = omega (arith, stays k f)
      go (yes h) true f = omega (arith, (fell k h f).2)

  eased_costs : AreCosts (eased w costs m)
  eased_costs = record { long = eased_long; fit = λ k. go k (dec_lt k 64) }
    where
      go : (k : ℕ) → Dec (k < 64) → get_or (eased w costs m) k 0 ≤ no_cost
      go k (yes h) = omega (arith, any_default (eased w costs m) k 0 no_cost (omega (arith, eased_long)), no_higher k, cost_top costs a k)
      go k (no h) = omega (arith, get_or-eq_default (eased w costs m) 0 {n = k} (omega (arith, eased_long)))

  -- over a link of m
  no_dearer : (k : ℕ) → k < 64 → 0 < w m k → next k ≤ w m k + cost_at costs m
  no_dearer k h l = go (dec_lt (w m k + cost_at costs m) (cost_at costs k)) (falls w costs m k) refl
    where
      go : Dec (w m k + cost_at costs m < cost_at costs k) → (b : Bool) → falls w costs m k ≡ b → next k ≤ w m k + cost_at costs m
      go d true f = omega (arith, (fell k h f).1)
      go (no d) false f = omega (arith, stays k f)
      go (yes d) false f = absurd (false≢true (sym f ∙ is_cheaper (w m k) (cost_at costs m) (cost_at costs k) (omega arith) d))

-- ---- while routers wait

-- Each real cost is that of a route from s, and over the links of a router that does not wait no cost is too high.
pub record Waiting (w : ℕ → ℕ → ℕ) (s : ℕ) (costs : List ℕ) (waiting : ℕ) : Type 0 where
  pub are : AreCosts costs
  pub fits : waiting < 2 ^ 64
  pub home : cost_at costs s ≡ 0
  pub routed : (i : ℕ) → cost_at costs i < no_cost → Route (λ a b. w b a) s i (cost_at costs i)
  pub relaxed : (i k : ℕ) → 0 < w k i → has waiting k ≡ false → cost_at costs i ≤ w k i + cost_at costs k

module _ (w : ℕ → ℕ → ℕ) (s : ℕ) where
  -- at first only s has a cost
  other : (i : ℕ) → i ≢ s → cost_at (set (replicate 64 no_cost) s 0) i ≡ no_cost
  other i a = get_or-set_other (replicate 64 no_cost) s i 0 no_cost a ∙ no_cost_at i

  -- and only s waits
  setting_off : s < 64 → Waiting w s (set (replicate 64 no_cost) s 0) (2 ^ s)
  setting_off h = record {
    are = are;
    fits = pow-lt h;
    home = home;
    routed = λ i f. routed i f (ℕ_discrete i s);
    relaxed = λ i k l e. relaxed i k e (ℕ_discrete k s);
  }
    where
      start : List ℕ
      start = set (replicate 64 no_cost) s 0

      are : AreCosts start
      are = written_costs (replicate 64 no_cost) no_costs_are s 0 h (omega arith)

      home : cost_at start s ≡ 0
      home = cost_written (replicate 64 no_cost) no_costs_are s 0 h

      routed : (i : ℕ) → cost_at start i < no_cost → Dec (i ≡ s) → Route (λ a b. w b a) s i (cost_at start i)
      routed i f (yes e) = rw e (rw home arrived)
      routed i f (no a) = absurd (omega (arith, other i a))

      relaxed : (i k : ℕ) → has (2 ^ s) k ≡ false → Dec (k ≡ s) → cost_at start i ≤ w k i + cost_at start k
      relaxed i k e (yes q) = absurd (false≢true (sym (rw q at e) ∙ own_bit s))
      relaxed i k e (no a) = omega (arith, other k a, cost_top start are i)

  -- as the code makes it
  pub first_step : s < 64 → (none : List ℕ) → none ≡ replicate 64 no_cost → (bit : ℕ) → bit ≡ 2 ^ s → Waiting w s (set none s 0) bit
  first_step h none n bit b = rw (n, b) (setting_off h)

  pub first_others : (none : List ℕ) → none ≡ replicate 64 no_cost → (bit : ℕ) → bit ≡ 2 ^ s
      → (k : ℕ) → has bit k ≡ false → cost_at (set none s 0) k ≡ no_cost
  first_others none n bit b k e = rw n (other k (λ q. false≢true (sym e ∙ ap (has bit) q ∙ ap (λ t. has t s) b ∙ own_bit s)))

  module _ (𝓝 : Net 64 w) (costs : List ℕ) (waiting : ℕ) (o : Waiting w s costs waiting) (m : ℕ) (q : IsNearest costs waiting m) where
    -- one router passes its cost on
    one_on : Waiting w s (eased w costs m) (bit_or (waiting - 2 ^ m) (fallen w costs m))
    unfolding fallen
    one_on = record {
      are = eased_costs w costs o.are m;
      fits = or_lt 64 (waiting - 2 ^ m) (fallen w costs m) (omega (arith, o.fits)) (set_below (falls w costs m) 64);
      home = omega (arith, no_higher w costs o.are m s, o.home);
      routed = λ i f. routed i f (falls w costs m i) refl;
      relaxed = λ i k l e. relaxed i k l (neither _ _ (sym (has_joined k (waiting - 2 ^ m) (fallen w costs m)) ∙ e)) (ℕ_discrete k m);
    }
      where
        new : ℕ → ℕ
        new = cost_at (eased w costs m)

        routed : (i : ℕ) → new i < no_cost → (b : Bool) → falls w costs m i ≡ b → Route (λ a b. w b a) s i (new i)
        routed i f false t = rw (stays w costs o.are m i t) (o.routed i (omega (arith, stays w costs o.are m i t)))
        routed i f true t =
            let h = (𝓝.inside m i (cheaper_says (w m i) (cost_at costs m) (cost_at costs i) t).0).1 in
            let (l, e, u) = fell w costs o.are m i h t in
            rw e (via l (o.routed m (omega (arith, cost_top costs o.are i))))

        relaxed : (i k : ℕ) → 0 < w k i → (has (waiting - 2 ^ m) k ≡ false) × (has (fallen w costs m) k ≡ false) → Dec (k ≡ m)
            → new i ≤ w k i + new k
        relaxed i k l (f, g) d = go d
          where
            in_64 : (k < 64) × (i < 64)
            in_64 = 𝓝.inside k i l

            same : new k ≡ cost_at costs k
            same = stays w costs o.are m k (sym (set_has (falls w costs m) 64 k in_64.0) ∙ g)

            go : Dec (k ≡ m) → new i ≤ w k i + new k
            go (yes e) =
                let l' : 0 < w m i = rw e at l in
                omega (arith, same, no_dearer w costs o.are m i in_64.1 l', ap (λ n. w n i) e, ap (cost_at costs) e)
            go (no a) =
                omega (arith, same, no_higher w costs o.are m i, o.relaxed i k l (sym (others_stay m waiting k q.member a) ∙ f))

    -- the search comes nearer to its end
    one_less : left_over (eased w costs m) (bit_or (waiting - 2 ^ m) (fallen w costs m)) < left_over costs waiting
    unfolding fallen
    one_less = go (ℕ_discrete (fallen w costs m) 0)
      where
        b : fallen w costs m < 2 ^ 64
        b = set_below (falls w costs m) 64

        go : Dec (fallen w costs m ≡ 0) → left_over (eased w costs m) (bit_or (waiting - 2 ^ m) (fallen w costs m)) < left_over costs waiting
        go (yes e) =
            let r : bit_or (waiting - 2 ^ m) (fallen w costs m) ≡ waiting - 2 ^ m = ap (bit_or (waiting - 2 ^ m)) e ∙ or_zero_r (waiting - 2 ^ m) in
            omega (
              arith,
              r,
              member_weight m waiting q.member,
              pow_pos m,
              sum_mono (cost_at (eased w costs m)) (cost_at costs) (no_higher w costs o.are m) 64,
            )
        go (no a) =
            let k = count_trailing_zeros 64 (fallen w costs m) in
            let t = (trailing 64 (fallen w costs m) (omega arith) b).0 in
            let h = member_below (fallen w costs m) k b t in
            let f = (fell w costs o.are m k h (sym (set_has (falls w costs m) 64 k h) ∙ t)).2 in
            omega (arith, one_on.fits, sum_falls (cost_at (eased w costs m)) (cost_at costs) (no_higher w costs o.are m) 64 k h f)

    -- one step of the code, by its results
    pub one_step : (bit : ℕ) → bit ≡ 2 ^ m → (fell : ℕ) → fell ≡ fallen w costs m → (next : List ℕ) → next ≡ eased w costs m
        → Waiting w s next (bit_or (waiting - bit) fell) × (left_over next (bit_or (waiting - bit) fell) < left_over costs waiting)
    one_step bit b fell f next n = rw (b, f, n) (one_on, one_less)

-- ---- at the end

module _ (w : ℕ → ℕ → ℕ) (𝓝 : Net 64 w) (s : ℕ) where
  -- no router waits: the costs are the least ones
  module _ (costs : List ℕ) (waiting : ℕ) (o : Waiting w s costs waiting) (e : waiting ≡ 0) where
    pub least_found : (i : ℕ) → cost_at costs i ≡ best w 64 s i
    least_found i =
        certified_is_best (turned_net 𝓝) s (suc no_cost) (cost_at costs) proof i (omega (arith, cost_top costs o.are i))
        ∙ best_turned w 64 i s
      where
        proof : Certified (λ a b. w b a) s (suc no_cost) (cost_at costs)
        proof = record {
          home = o.home;
          top = cost_top costs o.are;
          routed = o.routed;
          relaxed = λ i k l b. o.relaxed i k l (ap (λ n. has n k) e ∙ has_below 0 0 k (omega arith) (omega arith));
        }

    pub all_found : costs ≡ costs_from w s
    unfolding costs_from
    all_found =
        ext_get_or no_cost costs _ (o.are.long ∙ sym (length_values (best w 64 s) 64))
        (λ i l. least_found i ∙ sym (value_at (best w 64 s) 64 i no_cost (omega (arith, o.are.long))))

  -- from a number that is no router's there are no routes
  pub none_found : 64 ≤ s → replicate 64 no_cost ≡ costs_from w s
  unfolding costs_from
  none_found h =
      ext_get_or no_cost (replicate 64 no_cost) _ (length-replicate 64 no_cost ∙ sym (length_values (best w 64 s) 64))
      (λ i l. at i (omega (arith, length-replicate 64 no_cost)))
    where
      at : (i : ℕ) → i < 64 → cost_at (replicate 64 no_cost) i ≡ cost_at (map (best w 64 s) (below 64)) i
      at i b = no_cost_at i ∙ sym (out_of_reach 𝓝 s i h (omega arith)) ∙ sym (value_at (best w 64 s) 64 i no_cost b)
