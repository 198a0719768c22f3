-- What demand 2 says, as statements: costs, sets, entries, interface tables and printed numbers are those of the rules. Of paths `Demand3` speaks, of
-- acceptance `Demand1`. Each statement is proved in the file of `proofs/` that its heading names.
use Rattle.std.specs.Prelude.{◌≡◌, ◌≢◌, ◌⊎◌, ◌↔◌, true, List, [], ◌∷◌, ℕ, ◌+◌, ◌-◌, ◌*◌, ◌^◌, ◌≤◌, ◌<◌, get_or}
use Rattle.std.specs.Int.Count.{ones, count_trailing_zeros}
use Rattle.rules.specs.Words.{All}
use Rattle.rules.specs.Layout.{Obeys, Table}
use Rattle.rules.specs.Links.{weight}
use Rattle.rules.specs.Routes.{Route}
use Rattle.rules.specs.Costs.{LeastCost, cost, no_cost}
use Rattle.rules.specs.NextHops.{chosen, has, next_hops, size}
use Rattle.rules.specs.Entries.{code, cell, entry, forward, interfaces}
use Rattle.rules.specs.Listing.{decimal}

-- ---- least cost (proofs/LeastCost)

abbrev pub CostsAreLeast : Type 0
CostsAreLeast = (t : Table) → Obeys t → (i d : ℕ) → LeastCost (weight t) i d (cost t i d)

-- the sentence allows one number only
abbrev pub OneLeastCost : Type 0
OneLeastCost = (w : ℕ → ℕ → ℕ) (i d c e : ℕ) → LeastCost w i d c → LeastCost w i d e → c ≡ e

-- a real cost is at most 63 × 65535
abbrev pub RealCostsAreSmall : Type 0
RealCostsAreSmall = (t : Table) → Obeys t → (i d : ℕ) → cost t i d < no_cost → cost t i d ≤ 63 * 65535

-- weights hold both ways, and so do costs
abbrev pub CostsHoldBothWays : Type 0
CostsHoldBothWays = (t : Table) → Obeys t → (i d : ℕ) → cost t i d ≡ cost t d i

-- ---- for any search that finds costs; the document does not speak of it (proofs/LeastCost)

-- A certificate up to a bound B: f is 0 at d and nowhere above 4294967295, a value below that is the cost of some route, and over each link i-k with
-- f k < B, f i ≤ w i k + f k. Wherever f ≤ B it is then the cost. A search that runs to its end takes B above 4294967295; one that stops early takes
-- the value at which it stopped.
pub record Certified (w : ℕ → ℕ → ℕ) (d B : ℕ) (f : ℕ → ℕ) : Type 0 where
  pub home : f d ≡ 0
  pub top : (i : ℕ) → f i ≤ no_cost
  pub routed : (i : ℕ) → f i < no_cost → Route w d i (f i)
  pub relaxed : (i k : ℕ) → 0 < w i k → f k < B → f i ≤ w i k + f k

abbrev pub CertifiedIsCost : Type 0
CertifiedIsCost = (t : Table) → Obeys t → (d B : ℕ) (f : ℕ → ℕ) → Certified (weight t) d B f → (i : ℕ) → f i ≤ B → f i ≡ cost t i d

-- ---- sets (proofs/Sets)

-- k is a neighbour of i with weight(i, k) + cost(k, d) = cost(i, d)
abbrev pub LeadsOn : Table → ℕ → ℕ → ℕ → Type 0
LeadsOn t i d k = (0 < weight t i k) × (weight t i k + cost t k d ≡ cost t i d)

-- bit k is set exactly for these neighbours
abbrev pub SetsHaveNeighbours : Type 0
SetsHaveNeighbours = (t : Table) → Obeys t → (i d k : ℕ) → (has (next_hops t i d) k ≡ true) ↔ LeadsOn t i d k

-- empty exactly for i = d or no route
abbrev pub EmptySets : Type 0
EmptySets = (t : Table) → Obeys t → (i d : ℕ) → (next_hops t i d ≡ 0) ↔ ((i ≡ d) ⊎ (cost t i d ≡ no_cost))

-- a set is a 64-bit number
abbrev pub SetsFit : Type 0
SetsFit = (t : Table) → Obeys t → (i d : ℕ) → next_hops t i d < 2 ^ 64

-- hop is the lowest member, by trailing zeros, and count the number of members, by ones; an empty set answers 255 and 0
pub record ByBits (set hop count : ℕ) : Type 0 where
  pub member : 0 < set → has set hop ≡ true
  pub lowest : (k : ℕ) → has set k ≡ true → hop ≤ k
  pub by_zeros : 0 < set → hop ≡ count_trailing_zeros 64 set
  pub counted : count ≡ ones set
  pub empty : set ≡ 0 → (hop ≡ 255) × (count ≡ 0)

abbrev pub ChosenByBits : Type 0
ChosenByBits = (set : ℕ) → set < 2 ^ 64 → ByBits set (chosen set) (size set)

-- ---- entries (proofs/Entries)

-- the lowest of the numbers of which P holds
abbrev pub Lowest : (ℕ → Type 0) → ℕ → Type 0
Lowest P k = P k × ((m : ℕ) → P m → k ≤ m)

-- The four lines of an entry that has this code, over costs and neighbours: deliver (128) exactly where i = d; else no route (130) exactly where the
-- cost is 4294967295; else discard (129) exactly where j is a neighbour that leads on; else forward to the lowest neighbour that does. j need not be
-- linked to i.
pub record FourLines (t : Table) (i j d c : ℕ) : Type 0 where
  pub delivers : (c ≡ 128) ↔ (i ≡ d)
  pub has_none : i ≢ d → (c ≡ 130) ↔ (cost t i d ≡ no_cost)
  pub discards : i ≢ d → cost t i d ≢ no_cost → (c ≡ 129) ↔ LeadsOn t i d j
  pub forwards : i ≢ d → cost t i d ≢ no_cost → ¬ LeadsOn t i d j → (k : ℕ) → (c ≡ k) ↔ Lowest (LeadsOn t i d) k

abbrev pub EntriesByLines : Type 0
EntriesByLines = (t : Table) → Obeys t → (i j d : ℕ) → FourLines t i j d (code (entry t i j d))

-- a router forwards to a router, a member of its set, so that the codes 0 to 63 and 128 to 131 tell all cases apart
abbrev pub EntriesForward : Type 0
EntriesForward =
    (t : Table) → Obeys t → (i j d k : ℕ) → entry t i j d ≡ forward k → (has (next_hops t i d) k ≡ true) × (k < t.routers)

-- ---- interface tables (proofs/Interfaces)

-- row 255 first, then previous hops 0 to N − 1, a column for each destination; the whole row of the router itself is 131
pub record InterfaceCells (t : Table) (i : ℕ) : Type 0 where
  pub row_255 : (d : ℕ) → d < t.routers → get_or (interfaces t i) d 0 ≡ cell t i 255 d
  pub row_of : (j d : ℕ) → j < t.routers → d < t.routers → get_or (interfaces t i) ((j + 1) * t.routers + d) 0 ≡ cell t i j d
  pub own_row : (d : ℕ) → cell t i i d ≡ 131
  pub other_row : (j d : ℕ) → i ≢ j → cell t i j d ≡ code (entry t i j d)

abbrev pub InterfacesCellByCell : Type 0
InterfacesCellByCell = (t : Table) (i : ℕ) → InterfaceCells t i

-- ---- numbers in the listing (proofs/Decimals)

-- the number that decimal digits say, behind those that said v
unfoldable pub said_by : ℕ → List ℕ → ℕ
said_by v [] = v
said_by v (c ∷ cs) = said_by (v * 10 + (c - 48)) cs

-- a printed number is itself in decimal digits, with no needless zero in front
pub record Printed (x : ℕ) : Type 0 where
  pub all_digits : All (λ c. (48 ≤ c) × (c ≤ 57)) (decimal x)
  pub says_it : said_by 0 (decimal x) ≡ x
  pub no_zero_first : 0 < x → get_or (decimal x) 0 48 ≢ 48

abbrev pub NumbersPrinted : Type 0
NumbersPrinted = (x : ℕ) → x < 10 ^ 20 → Printed x
