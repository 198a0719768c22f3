-- Routes.
use Rattle.std.specs.Prelude.{ℕ, ◌+◌, ◌<◌}

-- A route is a chain of routers, each linked to the next. Its cost is the total of its weights: `Route w d i c` is a route from i to d of cost c,
-- over the weights w (0: no link).
pub data Route (w : ℕ → ℕ → ℕ) (d : ℕ) : ℕ → ℕ → Type 0 where
  arrived : Route w d d 0
  via : {i k c : ℕ} → 0 < w i k → Route w d k c → Route w d i (w i k + c)
