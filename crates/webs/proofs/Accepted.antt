-- The web of an accepted table says the table's weights, and its sets have the routers that a link of the table joins.
-- Assumes nothing.
use mathlib.Core.Path.{◌≡◌, refl, sym, ◌∙◌, ap, subst}
use mathlib.Core.Logic.{inl, inr}
use mathlib.Core.Bool.{Bool, true, false}
use mathlib.Core.List.{List, [], ◌∷◌, ◌++◌, map}
use Prim.Native.Nat.{ℕ, zero, suc, ◌+◌, ◌*◌, ◌≤◌, ◌<◌}
use native.Mathlib.Omega.{arith}
use lib.ListN.{length, get_or, take, drop}
use lib.Seq.{take-length, take-suc, split_at}
use borrow.Author.Tests.{lt-ltb}
use Rattle.rules.specs.Words.{◌<?◌, pick, All, Rising}
use Rattle.rules.specs.Layout.{Link, LinkFits, pair_number, Obeys}
use Rattle.rules.specs.Table.{link_fits, says}
use Rattle.rules.specs.Links.{joins, weight_in, weight}
use Rattle.rules.specs.NextHops.{has}
use Rattle.rules.specs.Demand1.{IsAccepted, SameEnds}
use Rattle.rules.specs.LinkQuestion.{no_more, link_in, link_answer}
use Rattle.rules.proofs.Basics.{pick_t, All-before, lower_before}
use Rattle.rules.proofs.TableSections.{link_passes}
use Rattle.rules.proofs.Weights.{ends_of, wide}
use Rattle.rules.proofs.Acceptance.{obeys}
use Rattle.tables.specs.Readings.{links_start, outline_of}
use Rattle.tables.specs.declared.Outline.{Outline}
use Rattle.links.specs.Links.{link_at}
use Rattle.links.proofs.Stand.{link_by_number}
use Rattle.webs.specs.declared.Web.{Web}
use Rattle.webs.specs.Webs.{web_weight, web_by, web_at, laid}
use Rattle.webs.proofs.Webs.{near_says, web_is}
use Rattle.webs.proofs.Laying.{next_laid}

-- ---- the order of links does not matter where no two have the same ends

module _ (n : ℕ) (l : Link) (g : LinkFits n l) (i k : ℕ) where
  swap : (x : Link) (w : ℕ) → LinkFits n x → pair_number x < pair_number l
      → pick (joins x i k) x.weight (pick (joins l i k) l.weight w) ≡ pick (joins l i k) l.weight (pick (joins x i k) x.weight w)
  swap x w f h = go (joins x i k) refl (joins l i k) refl
    where
      clash : SameEnds x.a x.b i k → SameEnds l.a l.b i k → ⊥
      clash (inl s) (inl t) = omega (arith, f, g)
      clash (inl s) (inr t) = omega (arith, f, g)
      clash (inr s) (inl t) = omega (arith, f, g)
      clash (inr s) (inr t) = omega (arith, f, g)

      go : (s : Bool) → joins x i k ≡ s → (t : Bool) → joins l i k ≡ t
          → pick s x.weight (pick t l.weight w) ≡ pick t l.weight (pick s x.weight w)
      go true p true q = absurd (clash (ends_of x i k p) (ends_of l i k q))
      go true p false q = refl
      go false p true q = refl
      go false p false q = refl

  -- the last may stand first
  last_first : (xs : List Link) → All (LinkFits n) xs → All (λ x. pair_number x < pair_number l) xs
      → weight_in (xs ++ (l ∷ [])) i k ≡ weight_in (l ∷ xs) i k
  unfolding weight_in
  last_first [] f h = refl
  last_first (x ∷ xs) f h =
      ap (pick (joins x i k) x.weight) (last_first xs f.1 h.1) ∙ swap x (weight_in xs i k) f.0 h.0

-- a link in front of links that give the same weights
in_front : (l : Link) (xs ys : List Link) → weight_in xs ≡ weight_in ys → weight_in (l ∷ xs) ≡ weight_in (l ∷ ys)
unfolding weight_in
in_front l xs ys p = λ j i k. pick (joins l i k) l.weight (p j i k)

-- ---- the links of an accepted table

module _ (bytes : List ℕ) (e : IsAccepted bytes) where
  abbrev links : List Link
  links = (says bytes).links

  o : Obeys (says bytes)
  o = obeys bytes e

  abbrev number : ℕ → Link
  number m = get_or links m no_more.link

  -- record m is link m
  there : (m : ℕ) → m < length links → (link_at bytes (links_start bytes + 7 * m)).link ≡ number m
  unfolding link_answer link_in
  there m h = ap (λ a. a.link) (link_by_number bytes e m ∙ pick_t _ _ _ (lt-ltb m (length links) h))

  -- link m fits, as those before it do, and their pairs are lower
  record Comes (m : ℕ) : Type 0 where
    fits : LinkFits (says bytes).routers (number m)
    fit : All (LinkFits (says bytes).routers) (take m links)
    lower : All (λ x. pair_number x < pair_number (number m)) (take m links)

  comes : (m : ℕ) → m < length links → Comes m
  comes m h =
      let c : links ≡ take m links ++ (number m ∷ drop (suc m) links) = split_at links m no_more.link h in
      let (before, this) =
      All-before (LinkFits (says bytes).routers) (take m links) (number m) (drop (suc m) links)
      (subst (All (LinkFits (says bytes).routers)) c o.links_fit)
      in
      record {
        fits = this;
        fit = before;
        lower = lower_before pair_number (take m links) (number m) (drop (suc m) links) (subst (λ ls. Rising (map pair_number ls)) c o.links_rise);
      }

  -- record m is laid in front of those before it
  one_laid : (m : ℕ) → m < length links → laid bytes (links_start bytes) (suc m) ≡ number m ∷ laid bytes (links_start bytes) m
  one_laid m h =
      let f = (comes m h).fits in
      let fits : LinkFits 64 (number m) = record {
        ends_rise = f.ends_rise;
        end_below = omega (arith, f.end_below, o.few_routers);
        weight_above_0 = f.weight_above_0;
        weight_fits = f.weight_fits;
      } in
      next_laid bytes (links_start bytes) m
      ∙ ap (λ l. pick (link_fits 64 l) (l ∷ laid bytes (links_start bytes) m) (laid bytes (links_start bytes) m)) (there m h)
      ∙ pick_t _ _ _ (link_passes 64 (number m) fits)

  -- the first m records, laid, give the weights of the first m links
  first_laid : (m : ℕ) → m ≤ length links → weight_in (laid bytes (links_start bytes) m) ≡ weight_in (take m links)
  unfolding laid
  first_laid zero h = refl
  first_laid (suc m) h =
      let c = comes m h in
      ap weight_in (one_laid m h)
      ∙ in_front (number m) (laid bytes (links_start bytes) m) (take m links) (first_laid m (omega arith))
      ∙ (λ j i k. sym (last_first (says bytes).routers (number m) c.fits i k (take m links) c.fit c.lower) j)
      ∙ ap weight_in (sym (take-suc links m no_more.link h))

  all_laid : weight_in (laid bytes (links_start bytes) (length links)) ≡ weight (says bytes)
  all_laid = first_laid (length links) (omega arith) ∙ ap weight_in (take-length links)

module _ (bytes : List ℕ) (e : IsAccepted bytes) (t : Outline) (q : t ≡ outline_of bytes) (web : Web) (p : web ≡ web_at bytes t) where
  -- the web of an accepted table's links is that of the table's weights
  own_web : web ≡ web_by (weight (says bytes))
  unfolding web_at
  own_web = p ∙ ap (λ (o : Outline). web_by (weight_in (laid bytes o.start o.links))) q ∙ ap web_by (all_laid bytes e)

  -- it says the table's weights
  pub accepted_web : web_weight web ≡ weight (says bytes)
  accepted_web = ap web_weight own_web ∙ web_is (wide (says bytes) (obeys bytes e))

  -- its sets have the routers that a link of the table joins
  pub accepted_near : (i k : ℕ) → has (get_or web.near i 0) k ≡ (0 <? weight (says bytes) i k)
  accepted_near i k = ap (λ (v : Web). has (get_or v.near i 0) k) own_web ∙ near_says (wide (says bytes) (obeys bytes e)) i k
