-- Demand 3 where every router uses the new view: nothing is discarded or lost, a finite cost arrives at that cost, and no route is told at the
-- source.
-- Assumes nothing.
use mathlib.Core.Path.{◌≡◌, refl, sym, ◌∙◌, ap}
use mathlib.Core.Logic.{◌≢◌, ◌⊎◌, inl, inr}
use mathlib.Core.Bool.{true, false, false≢true}
use mathlib.Core.List.{List, ◌∷◌}
use Prim.Native.Nat.{ℕ, ◌+◌, ◌<◌}
use native.Mathlib.Decide.{dec_lt}
use native.Mathlib.Omega.{arith}
use borrow.Author.Tests.{ltb-true, lt-ltb}
use Rattle.rules.specs.Layout.{Table}
use Rattle.rules.specs.Links.{weight}
use Rattle.rules.specs.Costs.{no_cost, cost}
use Rattle.rules.specs.NextHops.{has, next_hops}
use Rattle.rules.specs.Entries.{Entry, discard, no_route, forward, starts_here}
use Rattle.rules.specs.Paths.{new_view, Choice, outcome_code, delivered, unrouted, Path, ended, Site}
use Rattle.rules.specs.Demand3.{Follows, delivers, discards, has_none, loses, crosses, Together, Permitted, Willing, total, AtLeastCost}
use Rattle.rules.proofs.CostLaws.{Next}
use Rattle.rules.proofs.Sets.{has_next}
use Rattle.rules.proofs.Entries.{Enters, at_home, cut_off, drops, sends, entered, delivers_home}
use Rattle.rules.proofs.LoopFree.{begins, one_path, laws}

-- the total weight of one hop more
total_more : (w : ℕ → ℕ → ℕ) (i k : ℕ) (is ks : List ℕ) → is ≡ k ∷ ks → total w (i ∷ is) ≡ w i k + total w is
unfolding total
total_more w i k is ks e = rw e

-- every router uses the new view, whenever it decides
abbrev pub always_new : Choice
always_new i n = new_view

module _ {old new : Table} {d : ℕ} {site : Site} (𝓣 : Together old new) (𝓟 : Permitted old new d site) (𝓦 : Willing new d site) where
  -- the packet starts at i, or comes from a router whose set has i
  abbrev Fair : ℕ → ℕ → Type 0
  Fair j i = (j ≡ starts_here) ⊎ (has (next_hops new j d) i ≡ true)

  kept : (j i : ℕ) → i ≢ d → Fair j i → (site.rules new_view).discards i j ≡ false
  kept j i a (inl e) = rw e (𝓦.starts_on i a)
  kept j i a (inr e) = 𝓦.goes_on i j a e

  -- the site's destination is d
  elsewhere : (i : ℕ) → i ≢ site.destination → i ≢ d
  elsewhere i a q = a (q ∙ sym 𝓟.for_d)

  finite : (i : ℕ) → i ≢ site.destination → (site.rules new_view).has_route i ≡ true → cost new i d < no_cost
  finite i a r = ltb-true (cost new i d) no_cost (sym (𝓟.knows new_view i (elsewhere i a)) ∙ r)

  not_dropped : (j i : ℕ) → Fair j i → ¬ Enters (site.rules new_view) i j site.destination discard
  not_dropped j i g (drops a r t) = false≢true (sym (kept j i (elsewhere i a) g) ∙ t)

  not_cut_off : (j i : ℕ) → cost new i d < no_cost → ¬ Enters (site.rules new_view) i j site.destination no_route
  not_cut_off j i f (cut_off a r) = false≢true (sym r ∙ (𝓟.knows new_view i (elsewhere i a) ∙ lt-ltb (cost new i d) no_cost f))

  -- a router that forwards does so to a member of its set, a next hop
  onward : (j i k : ℕ) → Enters (site.rules new_view) i j site.destination (forward k)
      → (has (next_hops new i d) k ≡ true) × Next (weight new) (λ z. cost new z d) i k
  onward j i k (sends a r t) =
      let m = 𝓟.member new_view i j (elsewhere i a) (finite i a r) in
      (m, (has_next new 𝓣.new_obeys i d ((site.rules new_view).hop i j)).0 m)

  -- the cost falls by the weight of each link crossed
  arrives : {n i j : ℕ} {path : Path} → Follows site always_new n i j path → Fair j i → cost new i d < no_cost
      → (path.outcome ≡ delivered) × (path.router ≡ d) × (total (weight new) path.trace ≡ cost new i d)
  unfolding total
  arrives (delivers {i} {j} e) g f =
      let q : i ≡ d = delivers_home (site.rules new_view) i j site.destination e ∙ 𝓟.for_d in
      (refl, q, omega (arith, (laws 𝓣 d new_view).home, ap (λ z. cost new z d) q))
  arrives (discards {i} {j} e) g f = absurd (not_dropped j i g (entered (site.rules new_view) i j site.destination e))
  arrives (has_none {i} {j} e) g f = absurd (not_cut_off j i f (entered (site.rules new_view) i j site.destination e))
  arrives (loses {i} {j} {k} e c) g f =
      absurd (false≢true (sym c ∙ 𝓦.carried i k (onward j i k (entered (site.rules new_view) i j site.destination e)).1.link))
  arrives (crosses {i} {j} {k} {onward = rest} e c r) g f =
      let (m, s) = onward j i k (entered (site.rules new_view) i j site.destination e) in
      let (ks, q) = begins r in
      let (o, a, t) = arrives r (inr m) (omega (arith, s)) in
      (o, a, omega (arith, t, s, total_more (weight new) i k rest.trace ks q))

  -- away from the destination only a router with a route discards or forwards
  tells : (j i : ℕ) {e : Entry} → Enters (site.rules new_view) i j site.destination e → i ≢ d → cost new i d ≡ no_cost → e ≡ no_route
  tells j i (at_home q) a c = absurd (a (q ∙ 𝓟.for_d))
  tells j i (cut_off q r) a c = refl
  tells j i (drops q r t) a c = absurd (omega (arith, finite i q r))
  tells j i (sends q r t) a c = absurd (omega (arith, finite i q r))

  -- where there is no route the source tells it
  told : (j i : ℕ) {path : Path} → Follows site always_new 0 i j path → cost new i d ≡ no_cost → path ≡ ended unrouted i
  told j i f c =
      let a : i ≢ d = λ q. omega (arith, (laws 𝓣 d new_view).home, ap (λ z. cost new z d) q) in
      one_path f (has_none (tells j i (entered (site.rules new_view) i j site.destination refl) a c))

  pub at_least_cost : (s : ℕ) {path : Path} → Follows site always_new 0 s starts_here path → AtLeastCost new s d path
  at_least_cost s {path} f = go (dec_lt (cost new s d) no_cost)
    where
      go : Dec (cost new s d < no_cost) → AtLeastCost new s d path
      go (yes l) =
          let a = arrives f (inl refl) l in
          record {
            not_discarded = λ q. omega (arith, ap outcome_code (sym a.0 ∙ q));
            not_lost = λ q. omega (arith, ap outcome_code (sym a.0 ∙ q));
            arrives = λ l'. a;
            told = λ e. absurd (omega arith);
          }
      go (no l) =
          let t = told starts_here s f (omega (arith, (laws 𝓣 d new_view).top s)) in
          record {
            not_discarded = λ q. omega (arith, ap outcome_code (sym (ap (λ t. t.outcome) t) ∙ q));
            not_lost = λ q. omega (arith, ap outcome_code (sym (ap (λ t. t.outcome) t) ∙ q));
            arrives = λ l'. absurd (l l');
            told = λ e. t;
          }
