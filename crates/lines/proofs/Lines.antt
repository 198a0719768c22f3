-- A line of the listing, and how long it is at most.
-- Assumes nothing.
use mathlib.Core.Path.{◌≡◌, ap}
use mathlib.Core.List.{◌++◌, map}
use Prim.Native.Nat.{ℕ, ◌^◌, ◌≤◌, ◌<◌}
use native.Mathlib.Decide.{dec_lt}
use native.Mathlib.Omega.{arith}
use lib.ListN.{length, length-append}
use borrow.Author.Tests.{lt-ltb, le-ltb}
use Rattle.rules.specs.Words.{text, text_from}
use Rattle.rules.specs.Costs.{no_cost}
use Rattle.rules.specs.NextHops.{members}
use Rattle.rules.specs.Listing.{decimal, joined_by_commas, cost_and_next, line_of}
use Rattle.rules.proofs.Basics.{pick_t, pick_f}
use Rattle.lines.proofs.Decimals.{byte_digits, cost_digits}
use Rattle.lines.proofs.Commas.{short_members}

module _ (c set : ℕ) where
  pub no_cost_text : c ≡ no_cost → cost_and_next c set ≡ text "- -"
  unfolding cost_and_next
  no_cost_text e = pick_f _ _ _ (le-ltb c no_cost (omega (arith, e)))

  pub cost_text : c < no_cost → cost_and_next c set ≡ decimal c ++ text " " ++ joined_by_commas (map decimal (members set))
  unfolding cost_and_next
  cost_text h = pick_t _ _ _ (lt-ltb c no_cost h)

  pub cost_short : c < 2 ^ 32 → length (cost_and_next c set) ≤ 203
  unfolding text_from
  cost_short b = go (dec_lt c no_cost)
    where
      go : Dec (c < no_cost) → length (cost_and_next c set) ≤ 203
      go (yes h) =
          omega (arith, ap length (cost_text h), length-append {A = ℕ}, cost_digits c b, short_members set)
      go (no h) = let e : c ≡ no_cost = omega arith in omega (arith, ap length (no_cost_text e))

pub line_short : (i d c set : ℕ) → i < 2 ^ 8 → d < 2 ^ 8 → c < 2 ^ 32 → length (line_of i d c set) ≤ 256
unfolding text_from line_of
line_short i d c set hi hd hc =
    omega (arith, length-append {A = ℕ}, byte_digits i hi, byte_digits d hd, cost_short c set hc)
