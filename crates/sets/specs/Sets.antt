-- What each function of this crate promises of sets of routers as 64-bit numbers.
use Rattle.std.specs.Prelude.{◌≡◌, Bool, List, ℕ, replicate}
use Rattle.rules.specs.NextHops.{has, members, chosen, size}

-- 64 empty sets
abbrev pub NoSets : List ℕ → Type 0
NoSets r = r ≡ replicate 64 0

-- whether router k is in the set
abbrev pub HasMember : ℕ → ℕ → Bool → Type 0
HasMember set k r = r ≡ has set k

-- the chosen hop of the set
abbrev pub Chooses : ℕ → ℕ → Type 0
Chooses set r = r ≡ chosen set

-- how many members the set has
abbrev pub Counts : ℕ → ℕ → Type 0
Counts set r = r ≡ size set

-- the members, lowest first
abbrev pub GivesMembers : ℕ → List ℕ → Type 0
GivesMembers set r = r ≡ members set
