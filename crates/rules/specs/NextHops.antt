-- The next-hop set, written as a 64-bit number, its chosen hop and its size.
use Rattle.std.specs.Prelude.{Bool, ◌&&◌, List, ℕ, zero, suc, ◌+◌, ◌/◌, ◌%◌, ◌^◌, length, get_or}
use Rattle.rules.specs.Words.{◌=?◌, ◌<?◌, pick, those, below}
use Rattle.rules.specs.Layout.{Table}
use Rattle.rules.specs.Links.{weight}
use Rattle.rules.specs.Costs.{cost}

-- ---- sets of routers as numbers, bit k for router k

unfoldable pub has : ℕ → ℕ → Bool
has set k = set / 2 ^ k % 2 =? 1

-- the members, rising
unfoldable pub members : ℕ → List ℕ
members set = those (has set) (below 64)

-- the chosen hop: the lowest-numbered member; an empty set answers 255
unfoldable pub chosen : ℕ → ℕ
chosen set = get_or (members set) 0 255

-- the number of members
unfoldable pub size : ℕ → ℕ
size set = length (members set)

-- of the routers below n those that pass the test
unfoldable pub set_of : (ℕ → Bool) → ℕ → ℕ
set_of p zero = 0
set_of p (suc n) = pick (p n) (2 ^ n) 0 + set_of p n

-- ---- the next-hop set of i for d

-- neighbour k with weight(i, k) + cost(k, d) = cost(i, d)
unfoldable pub leads : Table → ℕ → ℕ → ℕ → Bool
leads t i d k = 0 <? weight t i k && weight t i k + cost t k d =? cost t i d

unfoldable pub next_hops : Table → ℕ → ℕ → ℕ
next_hops t i d = set_of (leads t i d) t.routers
