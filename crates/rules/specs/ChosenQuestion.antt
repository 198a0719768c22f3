-- The chosen hop and the size of a set: never refused.
use Rattle.std.specs.Prelude.{◌≡◌, ℕ, ◌^◌, ◌<◌}
use Rattle.rules.specs.NextHops.{chosen, size}
use Rattle.rules.specs.Demand2.{ByBits}

pub record ChosenInputs : Type 0 where
  pub set : ℕ

pub record ChosenHop : Type 0 where
  pub hop : ℕ
  pub size : ℕ

unfoldable pub chosen_answer : ChosenInputs → ChosenHop
chosen_answer q = record { hop = chosen q.set; size = size q.set }

-- ---- what is proved (proofs/ChosenQuestion)

pub record ChosenProved (q : ChosenInputs) : Type 0 where
  pub given : chosen_answer q ≡ record { hop = chosen q.set; size = size q.set }
  pub by_bits : q.set < 2 ^ 64 → ByBits q.set (chosen_answer q).hop (chosen_answer q).size
