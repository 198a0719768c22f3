-- What a web says: weights of a network of 64 routers, and the weights that it was made of.
-- Assumes nothing.
use mathlib.Core.Path.{◌≡◌, refl, sym, ◌∙◌, ap, ap₂}
use mathlib.Core.Bool.{Bool, true, false, false≢true}
use mathlib.Core.List.{List, map}
use Prim.Native.Nat.{ℕ, ◌+◌, ◌*◌, ◌/◌, ◌%◌, ◌^◌, ◌≤◌, ◌<◌}
use native.Mathlib.Decide.{dec_lt}
use native.Mathlib.Omega.{arith}
use mir.Syntax.{w16, w64}
use mir.Val.{Fits}
use lib.ListN.{length, get_or, get_or-eq_default}
use borrow.Author.Tests.{lt-ltb, le-ltb}
use Rattle.rules.specs.Words.{◌<?◌, pick, below}
use Rattle.rules.specs.NextHops.{has, set_of}
use Rattle.rules.proofs.Basics.{pick_t, pick_f, value_at, value_behind}
use Rattle.rules.proofs.CostLaws.{Net}
use Rattle.rules.proofs.Sets.{set_below, set_has, has_below, member_below}
use Rattle.sets.proofs.ByMembers.{nobody}
use Rattle.webs.specs.Webs.{weight_over, web_weight, web_by}

-- what the types of the two arrays say: 64 sets of 64 bits, 64 × 64 weights of 16 bits
pub record IsWeb (near weights : List ℕ) : Type 0 where
  pub near_long : length near ≡ 64
  pub weights_long : length weights ≡ 4096
  pub near_fits : (i : ℕ) → get_or near i 0 < 2 ^ 64
  pub weights_fit : (z : ℕ) → get_or weights z 0 < 65536

-- as a proof has it of an array behind a reference
pub is_web : (near weights : List ℕ) → length near ≡ 64 → length weights ≡ 4096
    → ((i : ℕ) → Fits w64 (get_or near i 0)) → ((z : ℕ) → Fits w16 (get_or weights z 0)) → IsWeb near weights
is_web near weights n m f g = record { near_long = n; weights_long = m; near_fits = λ i. omega (arith, f i); weights_fit = λ z. omega (arith, g z) }

-- the weight of a link stands in its row; where the bit is not set there is no link
module _ (near weights : List ℕ) (i k : ℕ) where
  pub weight_there : has (get_or near i 0) k ≡ true → weight_over near weights i k ≡ get_or weights (64 * i + k) 0
  unfolding weight_over
  weight_there e = pick_t _ _ _ e

  pub weight_none : has (get_or near i 0) k ≡ false → weight_over near weights i k ≡ 0
  unfolding weight_over
  weight_none e = pick_f _ _ _ e

module _ (near weights : List ℕ) (h : IsWeb near weights) where
  -- a link's bit is set
  pub linked : (i k : ℕ) → 0 < weight_over near weights i k → has (get_or near i 0) k ≡ true
  unfolding weight_over
  linked i k = go (has (get_or near i 0) k)
    where
      go : (t : Bool) → 0 < pick t (get_or weights (64 * i + k) 0) 0 → t ≡ true
      go true p = refl
      go false p = absurd (omega arith)

  pub web_net : Net 64 (weight_over near weights)
  unfolding weight_over
  web_net = record { few = omega arith; inside = inside; small = small }
    where
      below_64 : (i : ℕ) → (t : ℕ) → has (get_or near i 0) t ≡ true → i < 64
      below_64 i t e = go (dec_lt i 64)
        where
          go : Dec (i < 64) → i < 64
          go (yes l) = l
          go (no l) =
              let z : get_or near i 0 ≡ 0 = get_or-eq_default near 0 (omega (arith, h.near_long)) in
              absurd (false≢true (sym (ap (λ s. has s t) z ∙ nobody t) ∙ e))

      inside : (i k : ℕ) → 0 < weight_over near weights i k → (i < 64) × (k < 64)
      inside i k p = (below_64 i k (linked i k p), member_below (get_or near i 0) k (h.near_fits i) (linked i k p))

      small : (i k : ℕ) → weight_over near weights i k ≤ 65535
      small i k = go (has (get_or near i 0) k)
        where
          go : (t : Bool) → pick t (get_or weights (64 * i + k) 0) 0 ≤ 65535
          go true = omega (arith, h.weights_fit (64 * i + k))
          go false = omega arith

-- the web of weights says these weights
module _ {w : ℕ → ℕ → ℕ} (𝓝 : Net 64 w) where
  -- a router's set has those that it is linked to
  pub near_says : (i k : ℕ) → has (get_or (web_by w).near i 0) k ≡ (0 <? w i k)
  unfolding web_by
  near_says i k = go (dec_lt i 64) (dec_lt k 64)
    where
      row : ℕ → ℕ
      row i = set_of (λ k. 0 <? w i k) 64

      none_outside : ((i < 64) × (k < 64) → ⊥) → false ≡ (0 <? w i k)
      none_outside h = sym (le-ltb 0 (w i k) (none (dec_lt 0 (w i k))))
        where
          none : Dec (0 < w i k) → w i k ≤ 0
          none (yes p) = absurd (h (𝓝.inside i k p))
          none (no p) = omega arith

      go : Dec (i < 64) → Dec (k < 64) → has (get_or (map row (below 64)) i 0) k ≡ (0 <? w i k)
      go (no a) e = ap (λ s. has s k) (value_behind row 64 i 0 (omega arith)) ∙ nobody k ∙ none_outside (λ h. a h.0)
      go (yes a) (no b) =
          ap (λ s. has s k) (value_at row 64 i 0 a)
          ∙ has_below (row i) 64 k (set_below (λ k. 0 <? w i k) 64) (omega arith)
          ∙ none_outside (λ h. b h.1)
      go (yes a) (yes b) = ap (λ s. has s k) (value_at row 64 i 0 a) ∙ set_has (λ k. 0 <? w i k) 64 k b

  web_says : (i k : ℕ) → web_weight (web_by w) i k ≡ w i k
  unfolding web_by weight_over
  web_says i k = ap (λ t. pick t (get_or weights (64 * i + k) 0) 0) (near_says i k) ∙ go (dec_lt 0 (w i k))
    where
      weights : List ℕ
      weights = map (λ z. w (z / 64) (z % 64)) (below 4096)

      go : Dec (0 < w i k) → pick (0 <? w i k) (get_or weights (64 * i + k) 0) 0 ≡ w i k
      go (yes p) =
          let h = 𝓝.inside i k p in
          let q : (64 * i + k) / 64 ≡ i = omega arith in
          let r : (64 * i + k) % 64 ≡ k = omega arith in
          pick_t _ _ _ (lt-ltb 0 (w i k) p) ∙ value_at (λ z. w (z / 64) (z % 64)) 4096 (64 * i + k) 0 (omega arith) ∙ ap₂ w q r
      go (no p) =
          let z : 0 ≡ w i k = omega arith in
          pick_f _ _ _ (le-ltb 0 (w i k) (omega arith)) ∙ z

  pub web_is : web_weight (web_by w) ≡ w
  web_is = λ j i k. web_says i k j
