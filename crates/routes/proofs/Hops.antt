-- The next-hop set of a router, made on one walk over the routers that it is linked to.
-- Assumes nothing.
use mathlib.Core.Path.{◌≡◌, sym}
use mathlib.Core.Bool.{Bool, false}
use mathlib.Core.List.{List, [], ◌∷◌}
use Prim.Native.Nat.{ℕ, suc, ◌+◌, ◌*◌, ◌^◌, ◌≤◌, ◌<◌}
use native.Mathlib.Omega.{arith}
use lib.ListN.{length, get_or, get_or-eq_default}
use Rattle.rules.specs.Words.{pick}
use Rattle.rules.specs.Costs.{no_cost}
use Rattle.rules.specs.NextHops.{has, members}
use Rattle.rules.proofs.Basics.{any_default}
use Rattle.rules.proofs.Sets.{set_none}
use Rattle.sets.proofs.Walk.{Passed, Turn, setting_out, next_member, at_end, Made, none_made, one_made, made_fits, all_made}
use Rattle.sets.proofs.ByMembers.{nobody}
use Rattle.webs.specs.Webs.{weight_over}
use Rattle.webs.proofs.Webs.{weight_there, weight_none}
use Rattle.search.specs.Search.{as_cheap, hops_over, cost_at}
use Rattle.search.proofs.OneLink.{no_link_as_cheap}

module _ (near weights costs : List ℕ) (i : ℕ) where
  -- a link leads from i on to k
  abbrev hop : ℕ → Bool
  hop k = as_cheap (weight_over near weights i k) (cost_at costs k) (cost_at costs i)

  -- no link leads to a router whose bit is not set
  unlinked : (k : ℕ) → has (get_or near i 0) k ≡ false → hop k ≡ false
  unlinked k e = no_link_as_cheap _ _ _ (weight_none near weights i k e)

  -- behind the last router there is no next hop
  pub no_hops : length near ≤ i → 0 ≡ hops_over (weight_over near weights) (cost_at costs) i
  unfolding hops_over
  no_hops h = sym (set_none hop (λ k. unlinked k (rw (get_or-eq_default near 0 h) (nobody k))) 64)

  -- all below p are passed, and the next hops among them are in the set
  pub record Walked (set : ℕ) (left : List ℕ) : Type 0 where
    pub p : ℕ
    pub passed : Passed (get_or near i 0) left p
    pub made : Made hop set p

  pub starts : (left : List ℕ) → get_or near i 0 < 2 ^ 64 → left ≡ members (get_or near i 0) → Walked 0 left
  starts left h e = record { p = 0; passed = setting_out (get_or near i 0) left h e; made = none_made hop }

  module _ (set : ℕ) (left : List ℕ) (w : Walked set left) where
    pub ends : left ≡ [] → set ≡ hops_over (weight_over near weights) (cost_at costs) i
    unfolding hops_over
    ends e = all_made hop set w.p w.made (λ k l. unlinked k (at_end (get_or near i 0) left w.p w.passed e k l))

    -- one turn: the next member k, and its bit
    module _ (k : ℕ) (rest : List ℕ) (e : left ≡ k ∷ rest) where
      turn : Turn (get_or near i 0) w.p k rest
      turn = next_member (get_or near i 0) left w.p w.passed k rest e

      pub router : k < 64
      router = turn.router

      module _ (long : length costs ≡ 64) (h : i < 64) (r : ℕ)
          (b : r ≡ pick (as_cheap (get_or weights (64 * i + k) 0) (get_or costs k 0) (get_or costs i 0)) (2 ^ k) 0) where
        made : Made hop (set + r) (suc k)
        made = one_made hop set w.p w.made k turn.beyond router (λ j l u. unlinked j (turn.skipped j l u)) r same
          where
            same : r ≡ pick (hop k) (2 ^ k) 0
            same =
                rw (
                  weight_there near weights i k turn.member,
                  ← any_default costs k 0 no_cost (omega (arith, long, router)),
                  ← any_default costs i 0 no_cost (omega arith),
                ) b

        pub fits : set + r < 2 ^ 64
        fits = made_fits hop (set + r) (suc k) made

        pub onward : Walked (set + r) rest
        onward = record { p = suc k; passed = turn.passed; made = made }
