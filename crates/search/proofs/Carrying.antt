-- First hops carried on over the links of router m, by the walk that carries its cost on.
-- Assumes nothing.
use mathlib.Core.Path.{◌≡◌, refl, sym, ◌∙◌, ap}
use mathlib.Core.Logic.{inl, inr}
use mathlib.Core.Bool.{Bool, true, false}
use mathlib.Core.List.{List, []}
use Prim.Native.Nat.{ℕ, suc, ◌+◌, ◌*◌, ◌^◌, ◌≤◌, ◌<◌}
use native.Mathlib.Decide.{ℕ_discrete, dec_lt}
use native.Mathlib.Omega.{arith}
use lib.Bits.{bit_or, or_lt}
use lib.ListN.{length, get_or, set, length-set, get_or-eq_default}
use lib.Pow.{pow-lt}
use lib.Seq.{get_or-set_same, get_or-set_other}
use borrow.Author.Tests.{eqb-true, eqb-false, eq-eqb, ne_eqb}
use Rattle.rules.specs.Words.{◌=?◌, pick}
use Rattle.rules.specs.NextHops.{has}
use Rattle.rules.proofs.Basics.{pick_t, pick_f, length_values, value_at}
use Rattle.rules.proofs.CostLaws.{Net}
use Rattle.sets.proofs.ByMembers.{own_bit, only_bit}
use Rattle.sets.proofs.Walk.{Turn, at_end, Changed, none_changed, one_changed, all_changed}
use Rattle.webs.specs.Webs.{weight_over}
use Rattle.webs.proofs.Webs.{weight_there, weight_none}
use Rattle.search.specs.Steps.{AreSets, cheaper, renewed, handed, hops_after, carried}
use Rattle.search.specs.Search.{cost_at, as_cheap}
use Rattle.search.proofs.Arrays.{as_read}
use Rattle.search.proofs.OneLink.{no_link_cheaper, is_cheaper, no_cheaper, no_link_as_cheap, is_as_cheap, not_as_cheap}
use Rattle.search.proofs.FirstHops.{First}
use Rattle.search.proofs.Easing.{Eased, cost_now}

-- ---- one router

-- the first hops afterwards: those over the link alone where it is cheaper, those too where it is as cheap, else those before
pub data Renewal (weight from now hops over after : ℕ) : Type 0 where
  anew : cheaper weight from now ≡ true → after ≡ over → Renewal weight from now hops over after
  joined : cheaper weight from now ≡ false → 0 < weight → weight + from ≡ now → after ≡ bit_or hops over → Renewal weight from now hops over after
  kept : cheaper weight from now ≡ false → (0 < weight → now < weight + from) → after ≡ hops → Renewal weight from now hops over after

module _ (weight from now hops over : ℕ) where
  renewed_unlinked : weight ≡ 0 → renewed weight from now hops over ≡ hops
  renewed_unlinked e = pick_f _ _ _ (no_link_cheaper weight from now e) ∙ pick_f _ _ _ (no_link_as_cheap weight from now e)

  renewed_cheaper : cheaper weight from now ≡ true → renewed weight from now hops over ≡ over
  renewed_cheaper f = pick_t _ _ _ f

  renewed_as_cheap : 0 < weight → weight + from ≡ now → renewed weight from now hops over ≡ bit_or hops over
  renewed_as_cheap l e = pick_f _ _ _ (no_cheaper weight from now (omega arith)) ∙ pick_t _ _ _ (is_as_cheap weight from now l e)

  renewed_dearer : now < weight + from → renewed weight from now hops over ≡ hops
  renewed_dearer h = pick_f _ _ _ (no_cheaper weight from now (omega arith)) ∙ pick_f _ _ _ (not_as_cheap weight from now (λ e. omega arith))

  renewed_fits : hops < 2 ^ 64 → over < 2 ^ 64 → renewed weight from now hops over < 2 ^ 64
  renewed_fits h o = go (cheaper weight from now) (as_cheap weight from now)
    where
      go : (s t : Bool) → pick s over (pick t (bit_or hops over) hops) < 2 ^ 64
      go true t = o
      go false true = or_lt 64 hops over h o
      go false false = h

  -- which of the three it is
  which : Renewal weight from now hops over (renewed weight from now hops over)
  which = go (dec_lt 0 weight) (dec_lt (weight + from) now) (ℕ_discrete (weight + from) now)
    where
      go : Dec (0 < weight) → Dec (weight + from < now) → Dec (weight + from ≡ now)
          → Renewal weight from now hops over (renewed weight from now hops over)
      go (no l) d e = kept (no_link_cheaper weight from now (omega arith)) (λ h. absurd (l h)) (renewed_unlinked (omega arith))
      go (yes l) (yes u) e =
          let f = is_cheaper weight from now (omega arith) u in
          anew f (renewed_cheaper f)
      go (yes l) (no u) (yes e) = joined (no_cheaper weight from now (omega arith)) l e (renewed_as_cheap l e)
      go (yes l) (no u) (no a) = kept (no_cheaper weight from now (omega arith)) (λ h. omega arith) (renewed_dearer (omega arith))

-- ---- all routers

-- what m hands on to k: k itself where m is i, else the members of m's set
module _ (sets : List ℕ) (i m k : ℕ) where
  pub handed_says : (j : ℕ) → has (handed sets i m k) j ≡ true → First i m k j (has (get_or sets m 0) j ≡ true)
  handed_says j = go (m =? i) refl
    where
      go : (t : Bool) → (m =? i) ≡ t → has (pick t (2 ^ k) (get_or sets m 0)) j ≡ true → First i m k j (has (get_or sets m 0) j ≡ true)
      go true e f = inl (eqb-true m i e, only_bit k j f)
      go false e f = inr (eqb-false m i e, f)

  pub says_handed : (j : ℕ) → First i m k j (has (get_or sets m 0) j ≡ true) → has (handed sets i m k) j ≡ true
  says_handed j (inl (e, f)) = rw (eq-eqb m i e, f) (own_bit k)
  says_handed j (inr (d, h)) = rw (ne_eqb m i d) h

hops_fit : (w : ℕ → ℕ → ℕ) (costs : List ℕ) (i : ℕ) (sets : List ℕ) → AreSets sets → (m k : ℕ) → k < 64 → hops_after w costs i sets m k < 2 ^ 64
hops_fit w costs i sets a m k h =
    renewed_fits (w m k) (cost_at costs m) (cost_at costs k) (get_or sets k 0) (handed sets i m k) (a.fit k) (go (m =? i))
  where
    go : (t : Bool) → pick t (2 ^ k) (get_or sets m 0) < 2 ^ 64
    go true = pow-lt h
    go false = a.fit m

-- the sets carried on
module _ {w : ℕ → ℕ → ℕ} (𝓝 : Net 64 w) (costs : List ℕ) (i : ℕ) (sets : List ℕ) (a : AreSets sets) (m : ℕ) where
  carried_long : length (carried w costs i sets m) ≡ 64
  unfolding carried
  carried_long = length_values (hops_after w costs i sets m) 64

  behind : (k : ℕ) → 64 ≤ k → get_or (carried w costs i sets m) k 0 ≡ 0
  behind k h = get_or-eq_default (carried w costs i sets m) 0 (omega (arith, carried_long))

  inside : (k : ℕ) → k < 64 → get_or (carried w costs i sets m) k 0 ≡ hops_after w costs i sets m k
  unfolding carried
  inside k h = value_at (hops_after w costs i sets m) 64 k 0 h

  pub carried_are : AreSets (carried w costs i sets m)
  carried_are = record { long = carried_long; fit = λ k. fit k (dec_lt k 64) }
    where
      fit : (k : ℕ) → Dec (k < 64) → get_or (carried w costs i sets m) k 0 < 2 ^ 64
      fit k (yes h) = rw (inside k h) (hops_fit w costs i sets a m k h)
      fit k (no h) = omega (arith, behind k (omega arith))

  -- one of the three for each router; behind the end there are no links, and 0 stands there as before
  pub carried_on : (k : ℕ)
      → Renewal (w m k) (cost_at costs m) (cost_at costs k) (get_or sets k 0) (handed sets i m k) (get_or (carried w costs i sets m) k 0)
  carried_on k = go (dec_lt k 64) (dec_lt 0 (w m k))
    where
      go : Dec (k < 64) → Dec (0 < w m k)
          → Renewal (w m k) (cost_at costs m) (cost_at costs k) (get_or sets k 0) (handed sets i m k) (get_or (carried w costs i sets m) k 0)
      go (yes h) d = rw (inside k h) (which (w m k) (cost_at costs m) (cost_at costs k) (get_or sets k 0) (handed sets i m k))
      go (no h) (yes l) = absurd (omega (arith, (𝓝.inside m k l).1))
      go (no h) (no l) =
          kept (no_link_cheaper (w m k) (cost_at costs m) (cost_at costs k) (omega arith)) (λ l'. absurd (l l'))
          (behind k (omega arith) ∙ sym (get_or-eq_default sets 0 (omega (arith, a.long))))

-- ---- the walk

-- the walk has passed all routers below p: their first hops are as carried on, the others as they were
pub record Carries (near weights : List ℕ) (i m : ℕ) (costs sets after : List ℕ) (p : ℕ) : Type 0 where
  pub were : AreSets sets
  pub are : AreSets after
  pub changed : Changed 0 (hops_after (weight_over near weights) costs i sets m) sets after p

module _ (near weights : List ℕ) (i m : ℕ) (old sets : List ℕ) where
  abbrev at : ℕ → ℕ
  at = hops_after (weight_over near weights) old i sets m

  -- nothing is carried on where there is no link
  unlinked : (k : ℕ) → has (get_or near m 0) k ≡ false → at k ≡ get_or sets k 0
  unlinked k e = renewed_unlinked _ _ _ _ _ (weight_none near weights m k e)

  pub none_carried : AreSets sets → Carries near weights i m old sets sets 0
  none_carried a = record { were = a; are = a; changed = none_changed 0 at sets }

  module _ (costs : List ℕ) (fell : ℕ) (left : List ℕ) (p : ℕ) (e : Eased near weights m old costs fell left p) (after : List ℕ)
      (w : Carries near weights i m old sets after p) where
    -- one router more
    pub one_carried : (k : ℕ) (rest : List ℕ) → Turn (get_or near m 0) p k rest → (over : ℕ) → over ≡ handed sets i m k → (next : List ℕ)
        → next ≡ set after k (renewed (get_or weights (64 * m + k) 0) (get_or old m 0) (get_or costs k 0) (get_or after k 0) over)
        → Carries near weights i m old sets next (suc k)
    one_carried k rest t over o next n = rw (n ∙ ap (set after k) value) (record {
      were = w.were;
      are = record { long = length-set after k (at k) ∙ w.are.long; fit = λ j. fit j (ℕ_discrete j k) };
      changed =
          one_changed 0 at sets after p w.changed k t.beyond (λ j l u. unlinked j (t.skipped j l u)) (set after k (at k))
          (λ j d. get_or-set_other after k j (at k) 0 d) here;
    })
      where
        value : renewed (get_or weights (64 * m + k) 0) (get_or old m 0) (get_or costs k 0) (get_or after k 0) over ≡ at k
        value = rw (
          o,
          cost_now near weights m old costs fell left p e k rest t,
          w.changed.yet k t.beyond,
          as_read old e.were m e.from,
          weight_there near weights m k t.member,
        )

        here : get_or (set after k (at k)) k 0 ≡ at k
        here = get_or-set_same after k (at k) 0 (omega (arith, t.router, w.are.long))

        fit : (j : ℕ) → Dec (j ≡ k) → get_or (set after k (at k)) j 0 < 2 ^ 64
        fit j (yes q) = rw (q, here) (hops_fit (weight_over near weights) old i sets w.were m k t.router)
        fit j (no q) = rw (get_or-set_other after k j (at k) 0 q) (w.are.fit j)

    -- at the end no link is left
    pub all_carried : left ≡ [] → after ≡ carried (weight_over near weights) old i sets m
    unfolding carried
    all_carried z =
        all_changed 0 at sets after p w.changed 64 w.are.long
        (λ k l. unlinked k (at_end (get_or near m 0) left p e.passed z k l))
