-- What the listing program prints, as bytes: line by line, and the lines joined.
use Rattle.std.specs.Prelude.{true, false, not, ℕ, zero, suc, ◌+◌, ◌/◌, ◌%◌}
use mathlib.Core.List.{List, [], ◌∷◌, ◌++◌, map, flatten}
use Rattle.rules.specs.Words.{◌=?◌, ◌<?◌, pick, those, below, text}
use Rattle.rules.specs.Layout.{Table}
use Rattle.rules.specs.Table.{Judged, accepted, refused, read, table_of}
use Rattle.rules.specs.Costs.{cost, no_cost}
use Rattle.rules.specs.NextHops.{members, next_hops}

-- a number below 10 ^ most in decimal digits
unfoldable pub digits : ℕ → ℕ → List ℕ
digits zero x = []
digits (suc most) x = elim (x <? 10) [ true ↦ (48 + x) ∷ [] | false ↦ digits most (x / 10) ++ ((48 + x % 10) ∷ []) ]

-- twenty digits hold every 64-bit number
abbrev pub decimal : ℕ → List ℕ
decimal x = digits 20 x

-- every line ends with one line feed
abbrev pub ended_line : List ℕ → List ℕ
ended_line bytes = bytes ++ text "\n"

unfoldable pub joined_by_commas : List (List ℕ) → List ℕ
joined_by_commas [] = []
joined_by_commas (x ∷ []) = x
joined_by_commas (x ∷ y ∷ ys) = x ++ text "," ++ joined_by_commas (y ∷ ys)

-- cost and set members; no route prints `-` twice
unfoldable pub cost_and_next : ℕ → ℕ → List ℕ
cost_and_next c set =
    pick (c <? no_cost) (decimal c ++ text " " ++ joined_by_commas (map decimal (members set))) (text "- -")

-- router, destination, cost, set members
unfoldable pub line_of : ℕ → ℕ → ℕ → ℕ → List ℕ
line_of i d c set = ended_line (decimal i ++ text " " ++ decimal d ++ text " " ++ cost_and_next c set)

unfoldable pub line : Table → ℕ → ℕ → List ℕ
line t i d = line_of i d (cost t i d) (next_hops t i d)

-- rising destination other than the router
unfoldable pub lines_from : Table → ℕ → List (List ℕ)
lines_from t i = map (line t i) (those (λ d. not (d =? i)) (below t.routers))

-- rising router
unfoldable pub lines : Table → List (List ℕ)
lines t = flatten (map (lines_from t) (below t.routers))

unfoldable pub header : List ℕ
header = ended_line (text "router dest cost next")

-- a refusal prints only this
unfoldable pub refusal_line : ℕ → ℕ → List ℕ
refusal_line number place = ended_line (text "refused " ++ decimal number ++ text " at " ++ decimal place)

unfoldable pub listing_lines : Judged → List (List ℕ)
listing_lines (accepted rs end) = header ∷ lines (table_of rs)
listing_lines (refused number place) = refusal_line number place ∷ []

-- the listing of a table's bytes
unfoldable pub listing : List ℕ → List ℕ
listing bytes = flatten (listing_lines (read bytes))
