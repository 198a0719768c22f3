-- What a router does with a packet, and its full interface table.
use Rattle.std.specs.Prelude.{Bool, not, ℕ}
use mathlib.Core.List.{List, [], ◌∷◌, map, flatten}
use Rattle.rules.specs.Words.{◌=?◌, ◌<?◌, pick, ◌when◌, first◌otherwise◌, below}
use Rattle.rules.specs.Layout.{Table}
use Rattle.rules.specs.Costs.{cost, no_cost}
use Rattle.rules.specs.NextHops.{has, chosen, next_hops}

pub data Entry : Type 0 where
  deliver discard no_route : Entry
  forward : ℕ → Entry

-- the previous hop of a packet that starts here: no router has this number, so it is in no next-hop set
abbrev pub starts_here : ℕ
starts_here = 255

-- What the entries of one view for one destination go by: whether router i has a route, whether it discards a packet that comes from router j,
-- and the hop that it forwards such a packet to. They are a parameter because demand 3 is proved for any that discard at least what PIPO does;
-- document 01's follow below.
pub record Rules : Type 0 where
  pub has_route : ℕ → Bool
  pub discards : ℕ → ℕ → Bool
  pub hop : ℕ → ℕ → ℕ

-- router i, previous hop j, destination d: the first line that applies
unfoldable pub entry_by : Rules → ℕ → ℕ → ℕ → Entry
entry_by rules i j d =
    first deliver when (i =? d)
    ∷ no_route when not (rules.has_route i)
    ∷ discard when rules.discards i j
    ∷ []
    otherwise forward (rules.hop i j)

-- Document 01's rules: PIPO discards where j is any member of the next-hop set, and every packet goes to the chosen hop.
unfoldable pub rules_of : Table → ℕ → Rules
rules_of t d = record {
  has_route = λ i. cost t i d <? no_cost;
  discards = λ i j. has (next_hops t i d) j;
  hop = λ i j. chosen (next_hops t i d);
}

unfoldable pub entry : Table → ℕ → ℕ → ℕ → Entry
entry t i j d = entry_by (rules_of t d) i j d

-- ---- the full interface table

-- 0 to 63 forward there, 128 deliver, 129 discard, 130 no route
abbrev pub code : Entry → ℕ
code (forward k) = k
code deliver = 128
code discard = 129
code no_route = 130

-- the whole row of the router itself is 131
unfoldable pub cell : Table → ℕ → ℕ → ℕ → ℕ
cell t i j d = pick (i =? j) 131 (code (entry t i j d))

-- one row: previous hop j, a column for each destination
unfoldable pub row : Table → ℕ → ℕ → List ℕ
row t i j = map (cell t i j) (below t.routers)

-- row 255 first, then previous hops 0 to N − 1
unfoldable pub interfaces : Table → ℕ → List ℕ
interfaces t i = flatten (map (row t i) (starts_here ∷ below t.routers))
