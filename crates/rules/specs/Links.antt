-- The weights that a table's links give.
use Rattle.std.specs.Prelude.{Bool, ◌&&◌, ◌||◌, List, [], ◌∷◌, ℕ}
use Rattle.rules.specs.Words.{◌=?◌, pick}
use Rattle.rules.specs.Layout.{Link, Table}

-- the link runs between i and k, one way or the other
abbrev pub joins : Link → ℕ → ℕ → Bool
joins l i k = (l.a =? i && l.b =? k) || (l.a =? k && l.b =? i)

-- the weight of the first of these links that joins i and k
unfoldable pub weight_in : List Link → ℕ → ℕ → ℕ
weight_in [] i k = 0
weight_in (l ∷ ls) i k = pick (joins l i k) l.weight (weight_in ls i k)

-- the weight of the link between i and k, the same both ways; 0 where there is no link
abbrev pub weight : Table → ℕ → ℕ → ℕ
weight t = weight_in t.links
