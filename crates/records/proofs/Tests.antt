-- How long a record's contents are, by its tag.
-- Assumes nothing.
use mathlib.Core.Path.{◌≡◌}
use mathlib.Core.Bool.{true}
use Prim.Native.Nat.{ℕ}
use native.Mathlib.Omega.{arith}
use Rattle.std.proofs.lemmas.Bool.Decides.{nat_tests}
use Rattle.rules.specs.Layout.{tag_link, tag_end}
use Rattle.rules.specs.Table.{length_allowed}

pub link_long : (tag len : ℕ) → length_allowed tag len ≡ true → tag ≡ tag_link → len ≡ 4
unfolding length_allowed
link_long tag len h e = grind (arith, nat_tests)

pub end_long : (tag len : ℕ) → length_allowed tag len ≡ true → tag ≡ tag_end → len ≡ 0
unfolding length_allowed
end_long tag len h e = grind (arith, nat_tests)
