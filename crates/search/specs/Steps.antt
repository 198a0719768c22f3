-- The steps of a search: the nearest waiting router, and costs and sets carried on over its links.
use Rattle.std.specs.Prelude.{◌≡◌, Bool, true, ◌&&◌, List, map, ℕ, ◌+◌, ◌^◌, ◌≤◌, ◌<◌, length, get_or}
use Rattle.std.specs.Int.Bits.{bit_or}
use Rattle.rules.specs.Words.{◌=?◌, ◌<?◌, pick, below}
use Rattle.rules.specs.NextHops.{has, set_of}
use Rattle.search.specs.Search.{cost_at, as_cheap}

-- 64 sets of 64 bits
pub record AreSets (sets : List ℕ) : Type 0 where
  pub long : length sets ≡ 64
  pub fit : (k : ℕ) → get_or sets k 0 < 2 ^ 64

-- router m is in the set, and no member costs less
pub record IsNearest (costs : List ℕ) (waiting m : ℕ) : Type 0 where
  pub router : m < 64
  pub member : has waiting m ≡ true
  pub least : (k : ℕ) → has waiting k ≡ true → cost_at costs m ≤ cost_at costs k

-- ---- costs over the links of router m

-- over a link of this weight, from a router of this cost, it is cheaper than now; weight 0 is no link
abbrev pub cheaper : ℕ → ℕ → ℕ → Bool
cheaper weight from now = 0 <? weight && weight + from <? now

-- the route over m is cheaper for router k
abbrev pub falls : (ℕ → ℕ → ℕ) → List ℕ → ℕ → ℕ → Bool
falls w costs m k = cheaper (w m k) (cost_at costs m) (cost_at costs k)

-- router k's cost, or the cheaper one over m
abbrev pub lowered : (ℕ → ℕ → ℕ) → List ℕ → ℕ → ℕ → ℕ
lowered w costs m k = pick (falls w costs m k) (w m k + cost_at costs m) (cost_at costs k)

-- so for every router
unfoldable pub eased : (ℕ → ℕ → ℕ) → List ℕ → ℕ → List ℕ
eased w costs m = map (lowered w costs m) (below 64)

-- the routers whose cost fell
unfoldable pub fallen : (ℕ → ℕ → ℕ) → List ℕ → ℕ → ℕ
fallen w costs m = set_of (falls w costs m) 64

-- ---- sets over the links of router m; a first hop to a router is a next hop, for it, of the router that is searched from

-- the first hops to a router of this cost: those over such a link alone where it is cheaper, those too where it is as cheap, else those before
abbrev pub renewed : ℕ → ℕ → ℕ → ℕ → ℕ → ℕ
renewed weight from now hops over = pick (cheaper weight from now) over (pick (as_cheap weight from now) (bit_or hops over) hops)

-- the first hops from router i over m to k: k itself where m is i, else those to m
abbrev pub handed : List ℕ → ℕ → ℕ → ℕ → ℕ
handed sets i m k = pick (m =? i) (2 ^ k) (get_or sets m 0)

-- router k's first hops when the links of m are passed
abbrev pub hops_after : (ℕ → ℕ → ℕ) → List ℕ → ℕ → List ℕ → ℕ → ℕ → ℕ
hops_after w costs i sets m k = renewed (w m k) (cost_at costs m) (cost_at costs k) (get_or sets k 0) (handed sets i m k)

-- so for every router
unfoldable pub carried : (ℕ → ℕ → ℕ) → List ℕ → ℕ → List ℕ → ℕ → List ℕ
carried w costs i sets m = map (hops_after w costs i sets m) (below 64)
