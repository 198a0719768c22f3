-- Costs over the links of one router, by a walk over the routers that it is linked to.
-- Assumes nothing.
use mathlib.Core.Path.{◌≡◌, refl, sym, ◌∙◌, ap}
use mathlib.Core.Logic.{◌≢◌}
use mathlib.Core.Bool.{Bool, true, false}
use mathlib.Core.List.{List, [], ◌∷◌}
use Prim.Native.Nat.{ℕ, suc, ◌+◌, ◌*◌, ◌^◌, ◌≤◌, ◌<◌}
use native.Mathlib.Omega.{arith}
use lib.ListN.{get_or, set}
use lib.Seq.{get_or-set_other}
use Rattle.rules.specs.Words.{pick}
use Rattle.rules.specs.Costs.{no_cost}
use Rattle.rules.specs.NextHops.{has, members}
use Rattle.rules.proofs.Basics.{pick_t, pick_f}
use Rattle.sets.proofs.Walk.{Passed, Turn, setting_out, next_member, at_end, Made, none_made, one_made, made_fits, all_made, Changed, none_changed, one_changed, all_changed}
use Rattle.webs.specs.Webs.{weight_over}
use Rattle.webs.proofs.Webs.{IsWeb, weight_there, weight_none}
use Rattle.search.specs.Steps.{cheaper, falls, lowered, eased, fallen}
use Rattle.search.specs.Search.{cost_at}
use Rattle.search.proofs.Arrays.{AreCosts, as_read, cost_written, written_costs}
use Rattle.search.proofs.OneLink.{no_link_cheaper, cheaper_says}

-- ---- the walk

-- The walk has passed all routers below p: their costs are those over router m's links, and `fell` is the set of those among them whose cost fell.
pub record Eased (near weights : List ℕ) (m : ℕ) (old costs : List ℕ) (fell : ℕ) (left : List ℕ) (p : ℕ) : Type 0 where
  pub passed : Passed (get_or near m 0) left p
  pub from : m < 64
  pub were : AreCosts old
  pub are : AreCosts costs
  pub changed : Changed no_cost (lowered (weight_over near weights) old m) old costs p
  pub made : Made (falls (weight_over near weights) old m) fell p

module _ (near weights : List ℕ) (m : ℕ) (old : List ℕ) where
  abbrev w : ℕ → ℕ → ℕ
  w = weight_over near weights

  -- no cost falls where there is no link
  unlinked : (j : ℕ) → has (get_or near m 0) j ≡ false → falls w old m j ≡ false
  unlinked j e = no_link_cheaper _ _ _ (weight_none near weights m j e)

  pub none_eased : IsWeb near weights → m < 64 → AreCosts old → (left : List ℕ) → left ≡ members (get_or near m 0) → Eased near weights m old old 0 left 0
  none_eased b h a left e = record {
    passed = setting_out (get_or near m 0) left (b.near_fits m) e;
    from = h;
    were = a;
    are = a;
    changed = none_changed no_cost (lowered w old m) old;
    made = none_made (falls w old m);
  }

  module _ (costs : List ℕ) (fell : ℕ) (left : List ℕ) (p : ℕ) (e : Eased near weights m old costs fell left p) where
    pub next_linked : (k : ℕ) (rest : List ℕ) → left ≡ k ∷ rest → Turn (get_or near m 0) p k rest
    next_linked k rest s = next_member (get_or near m 0) left p e.passed k rest s

    -- the cost of a router that is yet to be passed
    pub cost_now : (k : ℕ) (rest : List ℕ) → Turn (get_or near m 0) p k rest → get_or costs k 0 ≡ cost_at old k
    cost_now k rest t = as_read costs e.are k t.router ∙ e.changed.yet k t.beyond

    -- a set of routers fits in 64 bits
    pub fell_fits : fell < 2 ^ 64
    fell_fits = made_fits (falls w old m) fell p e.made

    -- one router more
    pub one_eased : (k : ℕ) (rest : List ℕ) → Turn (get_or near m 0) p k rest → (r : ℕ) (next : List ℕ)
        → r ≡ pick (cheaper (get_or weights (64 * m + k) 0) (get_or old m 0) (get_or costs k 0)) (2 ^ k) 0
        → next
        ≡ pick (cheaper (get_or weights (64 * m + k) 0) (get_or old m 0) (get_or costs k 0)) (set costs k (get_or weights (64 * m + k) 0 + get_or old m 0)) costs
        → Eased near weights m old next (fell + r) rest (suc k)
    one_eased k rest t r next q n = go (falls w old m k) refl
      where
        v : ℕ
        v = get_or weights (64 * m + k) 0 + get_or old m 0

        weight_now : w m k ≡ get_or weights (64 * m + k) 0
        weight_now = weight_there near weights m k t.member

        test : cheaper (get_or weights (64 * m + k) 0) (get_or old m 0) (get_or costs k 0) ≡ falls w old m k
        test = rw (weight_now, cost_now k rest t, as_read old e.were m e.from)

        value : v ≡ w m k + cost_at old m
        value = omega (arith, weight_now, as_read old e.were m e.from)

        skip : (j : ℕ) → p ≤ j → j < k → falls w old m j ≡ false
        skip j l u = unlinked j (t.skipped j l u)

        build : (next : List ℕ) → AreCosts next → ((j : ℕ) → j ≢ k → cost_at next j ≡ cost_at costs j) → cost_at next k ≡ lowered w old m k
            → Eased near weights m old next (fell + r) rest (suc k)
        build next are same here = record {
          passed = t.passed;
          from = e.from;
          were = e.were;
          are = are;
          changed = one_changed no_cost (lowered w old m) old costs p e.changed k t.beyond (λ j l u. pick_f _ _ _ (skip j l u)) next same here;
          made = one_made (falls w old m) fell p e.made k t.beyond t.router skip r (q ∙ ap (λ b. pick b (2 ^ k) 0) test);
        }

        go : (b : Bool) → falls w old m k ≡ b → Eased near weights m old next (fell + r) rest (suc k)
        go true f =
            let c = test ∙ f in
            let s = cheaper_says (get_or weights (64 * m + k) 0) (get_or old m 0) (get_or costs k 0) c in
            let n' : next ≡ set costs k v = n ∙ pick_t _ _ _ c in
            rw n' (build (set costs k v)
            (written_costs costs e.are k v t.router (omega (arith, s.1, e.are.fit k)))
            (λ j i. get_or-set_other costs k j v no_cost i)
            (cost_written costs e.are k v t.router ∙ value ∙ sym (pick_t _ _ _ f)))
        go false f =
            let n' : next ≡ costs = n ∙ pick_f _ _ _ (test ∙ f) in
            rw n' (build costs e.are (λ j i. refl) (e.changed.yet k t.beyond ∙ sym (pick_f _ _ _ f)))

    -- at the end no link is left
    pub all_eased : left ≡ [] → (fell ≡ fallen w old m) × (costs ≡ eased w old m)
    unfolding fallen eased
    all_eased z = (
      all_made (falls w old m) fell p e.made over,
      all_changed no_cost (lowered w old m) old costs p e.changed 64 e.are.long (λ j l. pick_f _ _ _ (over j l)),
    )
      where
        over : (j : ℕ) → p ≤ j → falls w old m j ≡ false
        over j l = unlinked j (at_end (get_or near m 0) left p e.passed z j l)
