-- Costs: the document's sentence, and an executable function that is shown to meet it.
use Rattle.std.specs.Prelude.{[], ◌∷◌, ℕ, zero, suc, ◌+◌, ◌≤◌, ◌<◌, min}
use Rattle.rules.specs.Words.{◌=?◌, ◌when◌, first◌otherwise◌}
use Rattle.rules.specs.Layout.{Table}
use Rattle.rules.specs.Links.{weight}
use Rattle.rules.specs.Routes.{Route}

-- what is written where there is no route
abbrev pub no_cost : ℕ
no_cost = 4294967295

-- c is the cost from i to d: the least cost of all routes, and 4294967295 exactly where there is none.
pub data LeastCost (w : ℕ → ℕ → ℕ) (i d : ℕ) : ℕ → Type 0 where
  least : {c : ℕ} → Route w d i c → ((e : ℕ) → Route w d i e → c ≤ e) → c < no_cost → LeastCost w i d c
  none : ((e : ℕ) → ¬ Route w d i e) → LeastCost w i d no_cost

-- ---- an executable cost

-- the cost with no router in between
unfoldable pub direct : (ℕ → ℕ → ℕ) → ℕ → ℕ → ℕ
direct w i d = first 0 when (i =? d) ∷ no_cost when (w i d =? 0) ∷ [] otherwise w i d

-- the least cost with only routers below m in between; with one more, router m is passed or not
unfoldable pub best : (ℕ → ℕ → ℕ) → ℕ → ℕ → ℕ → ℕ
best w zero i d = direct w i d
best w (suc m) i d = min (best w m i d) (best w m i m + best w m m d)

-- cost(i, d)
unfoldable pub cost : Table → ℕ → ℕ → ℕ
cost t i d = best (weight t) t.routers i d
