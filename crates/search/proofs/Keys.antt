-- The nearest router of a set, found by a walk over its members with cost and number as one number.
-- Assumes nothing.
use mathlib.Core.Path.{◌≡◌, sym, ◌∙◌, ap}
use mathlib.Core.Logic.{◌≢◌}
use mathlib.Core.Bool.{true, false≢true}
use mathlib.Core.List.{List, [], ◌∷◌}
use Prim.Native.Nat.{ℕ, suc, ◌+◌, ◌*◌, ◌/◌, ◌%◌, ◌^◌, ◌≤◌, ◌<◌, min}
use native.Mathlib.Decide.{ℕ_discrete, dec_lt}
use native.Mathlib.Omega.{arith}
use lib.Count.{count_trailing_zeros}
use lib.ListN.{get_or}
use Rattle.rules.specs.NextHops.{has, members}
use Rattle.rules.proofs.Sets.{member_below, trailing}
use Rattle.sets.proofs.Walk.{Passed, Turn, setting_out, next_member, at_end}
use Rattle.search.proofs.Arrays.{AreCosts, as_read}
use Rattle.search.specs.Steps.{IsNearest}
use Rattle.search.specs.Search.{cost_at}

-- cost and number of a router as one number
abbrev pub key : List ℕ → ℕ → ℕ
key costs k = get_or costs k 0 * 64 + k

-- the walk has passed all below p: no member among them has a lower key than `least`, which is the key of a member, if of any router
pub record Least (costs : List ℕ) (waiting : ℕ) (left : List ℕ) (least p : ℕ) : Type 0 where
  pub passed : Passed waiting left p
  pub low : (k : ℕ) → k < p → has waiting k ≡ true → least ≤ key costs k
  pub own : least < 18446744073709551615 → (has waiting (least % 64) ≡ true) × (least / 64 ≡ get_or costs (least % 64) 0)

pub none_passed : (costs : List ℕ) (waiting : ℕ) (left : List ℕ) → waiting < 2 ^ 64 → left ≡ members waiting → Least costs waiting left 18446744073709551615 0
none_passed costs waiting left b e = record {
  passed = setting_out waiting left b e;
  low = λ k h e. absurd (omega arith);
  own = λ h. absurd (omega arith);
}

module _ (costs : List ℕ) (waiting : ℕ) (left : List ℕ) (least p : ℕ) (w : Least costs waiting left least p) where
  -- the next member
  pub next_key : (k : ℕ) (rest : List ℕ) → left ≡ k ∷ rest → Turn waiting p k rest
  next_key k rest s = next_member waiting left p w.passed k rest s

  -- one member more
  pub one_passed : (r k : ℕ) (rest : List ℕ) → r ≡ min least (key costs k) → Turn waiting p k rest → Least costs waiting rest r (suc k)
  one_passed r k rest e t = record {
    passed = t.passed;
    low = low;
    own = own (dec_lt (key costs k) least);
  }
    where
      low : (j : ℕ) → j < suc k → has waiting j ≡ true → r ≤ key costs j
      low j h m = go (ℕ_discrete j k) (dec_lt j p)
        where
          go : Dec (j ≡ k) → Dec (j < p) → r ≤ key costs j
          go (yes q) d = omega (arith, ap (key costs) q)
          go (no q) (yes l) = omega (arith, w.low j l m)
          go (no q) (no l) = absurd (false≢true (sym (t.skipped j (omega arith) (omega arith)) ∙ m))

      own : Dec (key costs k < least) → r < 18446744073709551615 → (has waiting (r % 64) ≡ true) × (r / 64 ≡ get_or costs (r % 64) 0)
      own (yes l) h =
          let q : r % 64 ≡ k = omega (arith, t.router) in
          let z : r / 64 ≡ get_or costs k 0 = omega (arith, t.router) in
          (ap (has waiting) q ∙ t.member, z ∙ ap (λ n. get_or costs n 0) (sym q))
      own (no l) h =
          let q : r ≡ least = omega arith in
          let o = w.own (omega arith) in
          rw q o

  -- at the end it is the nearest member's key
  pub all_passed : AreCosts costs → waiting ≢ 0 → waiting < 2 ^ 64 → left ≡ [] → IsNearest costs waiting (least % 64)
  all_passed a s b e = record { router = in_64; member = o.0; least = cheapest }
    where
      passed_all : (k : ℕ) → has waiting k ≡ true → least ≤ key costs k
      passed_all k m = go (dec_lt k p)
        where
          go : Dec (k < p) → least ≤ key costs k
          go (yes l) = w.low k l m
          go (no l) = absurd (false≢true (sym (at_end waiting left p w.passed e k (omega arith)) ∙ m))

      some : has waiting (count_trailing_zeros 64 waiting) ≡ true
      some = (trailing 64 waiting (omega arith) b).0

      o : (has waiting (least % 64) ≡ true) × (least / 64 ≡ get_or costs (least % 64) 0)
      o =
          let k = count_trailing_zeros 64 waiting in
          w.own (omega (arith, passed_all k some, member_below waiting k b some, a.fit k))

      in_64 : least % 64 < 64
      in_64 = omega arith

      cheapest : (k : ℕ) → has waiting k ≡ true → cost_at costs (least % 64) ≤ cost_at costs k
      cheapest k m =
          let l = member_below waiting k b m in
          omega (arith, passed_all k m, l, as_read costs a k l, as_read costs a (least % 64) in_64, o.1)
