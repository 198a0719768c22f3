-- Links laid into a web, one after the other.
-- Assumes nothing.
use mathlib.Core.Path.{◌≡◌, refl, sym, ◌∙◌, ap}
use mathlib.Core.Logic.{◌≢◌, inl, inr}
use mathlib.Core.Bool.{Bool, true, false, not, ◌&&◌, or-true}
use mathlib.Core.List.{List, ◌∷◌, map}
use Prim.Native.Nat.{ℕ, suc, ◌+◌, ◌*◌, ◌/◌, ◌%◌, ◌^◌, ◌<◌}
use native.Mathlib.Numerals.{add-one}
use native.Mathlib.Decide.{ℕ_discrete}
use native.Mathlib.Omega.{arith}
use lib.Bits.{bit_or}
use lib.Dec.{eqb}
use lib.ListN.{length, get_or, set, replicate, length-set, length-replicate, get_or-replicate}
use lib.Seq.{ext_get_or, get_or-set_same, get_or-set_other}
use borrow.Author.Tests.{lt-ltb, eq-eqb}
use Rattle.std.specs.Prelude.{Option, Some, None}
use Rattle.rules.specs.Words.{◌<?◌, pick, below}
use Rattle.rules.specs.Layout.{Link, LinkFits}
use Rattle.rules.specs.Table.{link_fits}
use Rattle.rules.specs.Links.{joins, weight_in}
use Rattle.rules.specs.NextHops.{set_of}
use Rattle.rules.specs.Demand1.{SameEnds}
use Rattle.rules.proofs.Basics.{pick_t, pick_f, length_values, value_at}
use Rattle.rules.proofs.TableSections.{fits_link, link_passes}
use Rattle.rules.proofs.Sets.{set_none}
use Rattle.rules.proofs.Weights.{ends_of}
use Rattle.links.specs.Links.{next_numbers, link_at, Tells}
use Rattle.links.specs.declared.Link.{Link as LinkHere}
use Rattle.webs.specs.Webs.{web_by, laid, near_with, weights_with, web_with, numbers_of}
use Rattle.webs.specs.declared.Web.{Web}
use Rattle.sets.proofs.ByMembers.{one_bit, set_same, with_member}

-- a link does not pass the test where it does not fit
pub unfit : (l : Link) → (LinkFits 64 l → ⊥) → link_fits 64 l ≡ false
unfit l h = go (link_fits 64 l) refl
  where
    go : (t : Bool) → link_fits 64 l ≡ t → t ≡ false
    go true e = absurd (h (fits_link 64 l e))
    go false e = refl

-- ---- one more link

-- values of a function, changed at two places, are the values of another
two_changed : (f g : ℕ → ℕ) (n a b x y : ℕ) → a < n → b < n → b ≢ a → x ≡ g a → y ≡ g b → ((j : ℕ) → j < n → j ≢ a → j ≢ b → f j ≡ g j)
    → set (set (map f (below n)) a x) b y ≡ map g (below n)
two_changed f g n a b x y la lb d p q h =
    ext_get_or 0 (set one b y) (map g (below n)) (long ∙ sym (length_values g n))
    (λ j l. at j (omega (arith, long)) (ℕ_discrete j a) (ℕ_discrete j b) ∙ sym (value_at g n j 0 (omega (arith, long))))
  where
    one : List ℕ
    one = set (map f (below n)) a x

    one_long : length one ≡ n
    one_long = length-set (map f (below n)) a x ∙ length_values f n

    long : length (set one b y) ≡ n
    long = length-set one b y ∙ one_long

    at : (j : ℕ) → j < n → Dec (j ≡ a) → Dec (j ≡ b) → get_or (set one b y) j 0 ≡ g j
    at j l d (yes e) = rw e (get_or-set_same one b y 0 (omega (arith, one_long)) ∙ q)
    at j l (yes e) (no t) =
        get_or-set_other one b j y 0 t ∙ rw e (get_or-set_same (map f (below n)) a x 0 (omega (arith, length_values f n)) ∙ p)
    at j l (no s) (no t) =
        get_or-set_other one b j y 0 t ∙ get_or-set_other (map f (below n)) a j x 0 s ∙ value_at f n j 0 l ∙ h j l s t

module _ (l : Link) (ls : List Link) where
  -- between its ends it has its own weight, elsewhere nothing changes
  at_ends : (i k : ℕ) → SameEnds l.a l.b i k → weight_in (l ∷ ls) i k ≡ l.weight
  unfolding weight_in
  at_ends i k s = pick_t _ _ _ (joined s)
    where
      joined : SameEnds l.a l.b i k → joins l i k ≡ true
      joined (inl (p, q)) = rw (eq-eqb l.a i p, eq-eqb l.b k q)
      joined (inr (p, q)) = rw (eq-eqb l.a k p, eq-eqb l.b i q) (or-true (eqb l.a i && eqb l.b k))

  elsewhere : (i k : ℕ) → (SameEnds l.a l.b i k → ⊥) → weight_in (l ∷ ls) i k ≡ weight_in ls i k
  unfolding weight_in
  elsewhere i k h = pick_f _ _ _ (go (joins l i k) refl)
    where
      go : (t : Bool) → joins l i k ≡ t → t ≡ false
      go true e = absurd (h (ends_of l i k e))
      go false e = refl

  module _ (f : LinkFits 64 l) where
    -- row j of the sets
    abbrev row : List Link → ℕ → ℕ
    row ls j = set_of (λ k. 0 <? weight_in ls j k) 64

    -- a row gets the bit of the other end
    one_more : (j b : ℕ) → b < 64 → SameEnds l.a l.b j b → ((k : ℕ) → k ≢ b → SameEnds l.a l.b j k → ⊥)
        → bit_or (row ls j) (2 ^ b) ≡ row (l ∷ ls) j
    one_more j b h s o =
        with_member (λ k. 0 <? weight_in ls j k) (λ k. 0 <? weight_in (l ∷ ls) j k) 64 b h
        (lt-ltb 0 (weight_in (l ∷ ls) j b) (omega (arith, at_ends j b s, f)))
        (λ k a. ap (λ w. 0 <? w) (elsewhere j k (o k a)))

    -- the web with the link is that of one link more
    near_more : near_with l (web_by (weight_in ls)).near ≡ (web_by (weight_in (l ∷ ls))).near
    unfolding near_with web_by
    near_more =
        pick_t _ _ _ (link_passes 64 l f)
        ∙ two_changed (row ls) (row (l ∷ ls)) 64 l.a l.b _ _ (omega (arith, f)) f.end_below (omega (arith, f))
        (ap (λ s. bit_or s (2 ^ l.b)) (value_at (row ls) 64 l.a 0 (omega (arith, f))) ∙ one_more l.a l.b f.end_below (inl (refl, refl)) at_a)
        (
        ap (λ s. bit_or s (2 ^ l.a))
        (get_or-set_other (map (row ls) (below 64)) l.a l.b _ 0 (omega (arith, f)) ∙ value_at (row ls) 64 l.b 0 f.end_below)
        ∙ one_more l.b l.a (omega (arith, f)) (inr (refl, refl)) at_b
        )
        (λ j h x y. set_same (λ k. 0 <? weight_in ls j k) (λ k. 0 <? weight_in (l ∷ ls) j k) 64 (λ k m. ap (λ w. 0 <? w) (sym (elsewhere j k (at_none j k x y)))))
      where
        at_a : (k : ℕ) → k ≢ l.b → SameEnds l.a l.b l.a k → ⊥
        at_a k h (inl s) = h (sym s.1)
        at_a k h (inr s) = omega (arith, f)

        at_b : (k : ℕ) → k ≢ l.a → SameEnds l.a l.b l.b k → ⊥
        at_b k h (inl s) = omega (arith, f)
        at_b k h (inr s) = h (sym s.0)

        at_none : (j k : ℕ) → j ≢ l.a → j ≢ l.b → SameEnds l.a l.b j k → ⊥
        at_none j k x y (inl s) = x (sym s.0)
        at_none j k x y (inr s) = y (sym s.1)

    weights_more : weights_with l (web_by (weight_in ls)).weights ≡ (web_by (weight_in (l ∷ ls))).weights
    unfolding weights_with web_by
    weights_more =
        pick_t _ _ _ (link_passes 64 l f)
        ∙ two_changed (λ z. weight_in ls (z / 64) (z % 64)) (λ z. weight_in (l ∷ ls) (z / 64) (z % 64)) 4096 (64 * l.a + l.b) (64 * l.b + l.a) l.weight l.weight
        (omega (arith, f)) (omega (arith, f)) (omega (arith, f))
        (sym (at_ends ((64 * l.a + l.b) / 64) ((64 * l.a + l.b) % 64) (inl (omega (arith, f), omega (arith, f)))))
        (sym (at_ends ((64 * l.b + l.a) / 64) ((64 * l.b + l.a) % 64) (inr (omega (arith, f), omega (arith, f)))))
        (λ z h x y. sym (elsewhere (z / 64) (z % 64) (at_none z x y)))
      where
        at_none : (z : ℕ) → z ≢ 64 * l.a + l.b → z ≢ 64 * l.b + l.a → SameEnds l.a l.b (z / 64) (z % 64) → ⊥
        at_none z x y (inl s) = x (omega arith)
        at_none z x y (inr s) = y (omega arith)

    web_more : web_with l (web_by (weight_in ls)) ≡ web_by (weight_in (l ∷ ls))
    unfolding web_by
    web_more = λ i. record { near = near_more i; weights = weights_more i }

-- one that does not fit changes nothing
pub web_kept : (l : Link) → link_fits 64 l ≡ false → (web : Web) → web ≡ web_with l web
unfolding near_with weights_with
web_kept l e web =
    let p : web.near ≡ near_with l web.near = sym (pick_f _ _ _ e) in
    let q : web.weights ≡ weights_with l web.weights = sym (pick_f _ _ _ e) in
    λ i. record { near = p i; weights = q i }

-- ---- as the code lays one link

-- one that fits is laid both ways
module _ (l : Link) (f : LinkFits 64 l) (web : Web) where
  abbrev one : List ℕ
  one = set web.near l.a (bit_or (get_or web.near l.a 0) (1 * 2 ^ l.b % 2 ^ 64))

  abbrev both_ends : List ℕ
  both_ends = set one l.b (bit_or (get_or one l.b 0) (1 * 2 ^ l.a % 2 ^ 64))

  abbrev both_weights : List ℕ
  both_weights = set (set web.weights (64 * l.a + l.b) l.weight) (64 * l.b + l.a) l.weight

  ends_put : both_ends ≡ near_with l web.near
  unfolding near_with
  ends_put = rw (one_bit l.a (omega (arith, f)), one_bit l.b (omega (arith, f))) (sym (pick_t _ _ _ (link_passes 64 l f)))

  weights_put : both_weights ≡ weights_with l web.weights
  unfolding weights_with
  weights_put = sym (pick_t _ _ _ (link_passes 64 l f))

  pub web_put : ◌≡◌ {A = Web} (record { near = both_ends; weights = both_weights }) (web_with l web)
  web_put = λ i. record { near = ends_put i; weights = weights_put i }

-- ---- the links of a table, laid from the first on

-- a function that is 0 everywhere
no_values : (f : ℕ → ℕ) → ((k : ℕ) → f k ≡ 0) → (n : ℕ) → replicate n 0 ≡ map f (below n)
no_values f h n =
    ext_get_or 0 (replicate n 0) (map f (below n)) (length-replicate n 0 ∙ sym (length_values f n))
    (λ i l. let b : i < n = omega (arith, length-replicate {A = ℕ} n 0) in get_or-replicate n i 0 0 b ∙ sym (value_at f n i 0 b ∙ h i))

module _ (bytes : List ℕ) (start : ℕ) where
  -- the web with the first n records laid
  abbrev pub web_so_far : ℕ → Web
  web_so_far n = web_by (weight_in (laid bytes start n))

  pub none_laid : (web : Web) → web.near ≡ replicate 64 0 → web.weights ≡ replicate 4096 0 → web ≡ web_so_far 0
  unfolding laid web_by weight_in
  none_laid web p q = λ i. record {
    near = (p ∙ no_values (λ i. set_of (λ k. 0 <? 0) 64) (λ i. set_none (λ k. 0 <? 0) (λ k. refl) 64) 64) i;
    weights = (q ∙ no_values (λ z. 0) (λ z. refl) 4096) i;
  }

  -- record n, where it is a link that fits, comes in front
  pub next_laid : (n : ℕ) → let m = link_at bytes (start + 7 * n) in
      laid bytes start (suc n) ≡ pick (link_fits 64 m.link) (m.link ∷ laid bytes start n) (laid bytes start n)
  unfolding laid
  next_laid n = refl

  module _ (n : ℕ) (web : Web) (so_far : web ≡ web_so_far n) where
    -- record n, laid
    one_laid : (next : Option LinkHere) → Tells bytes (start + 7 * n) next → web_with (next_numbers next).link web ≡ web_so_far (n + 1)
    one_laid next told = rw (add-one n) (go (link_fits 64 l) refl)
      where
        l : Link
        l = (next_numbers next).link

        ls : List Link
        ls = laid bytes start n

        laid_so : laid bytes start (suc n) ≡ pick (link_fits 64 l) (l ∷ ls) ls
        laid_so = next_laid n ∙ ap (λ m. pick (link_fits 64 m.link) (m.link ∷ ls) ls) (sym told.0)

        go : (t : Bool) → link_fits 64 l ≡ t → web_with l web ≡ web_so_far (suc n)
        go true e =
            ap (web_with l) so_far
            ∙ web_more l ls (fits_link 64 l e)
            ∙ ap (λ ls. web_by (weight_in ls)) (sym (laid_so ∙ pick_t _ _ _ e))
        go false e = sym (web_kept l e web) ∙ so_far ∙ ap (λ ls. web_by (weight_in ls)) (sym (laid_so ∙ pick_f _ _ _ e))

    -- as the code does it
    pub link_laid : (l : LinkHere) → Tells bytes (start + 7 * n) (Some l) → (next : Web) → next ≡ web_with (numbers_of l) web → next ≡ web_so_far (n + 1)
    unfolding next_numbers
    link_laid l told next e = e ∙ one_laid (Some l) told

    pub no_link_laid : Tells bytes (start + 7 * n) None → web ≡ web_so_far (n + 1)
    unfolding next_numbers
    no_link_laid told = web_kept (next_numbers None).link (unfit _ (λ f. omega (arith, f))) web ∙ one_laid None told
