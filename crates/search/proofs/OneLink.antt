-- The two tests of one link: over it a router is reached more cheaply, or as cheaply.
-- Assumes nothing.
use mathlib.Core.Path.{◌≡◌, refl, ap}
use mathlib.Core.Logic.{◌≢◌}
use mathlib.Core.Bool.{Bool, true, false, ◌&&◌}
use Prim.Native.Nat.{ℕ, ◌+◌, ◌≤◌, ◌<◌}
use native.Mathlib.Omega.{arith}
use lib.Dec.{eqb, ltb}
use borrow.Author.Tests.{lt-ltb, le-ltb, ltb-true, eqb-true, eq-eqb, ne_eqb}
use Rattle.rules.proofs.Basics.{both, both_pass}
use Rattle.search.specs.Search.{as_cheap}
use Rattle.search.specs.Steps.{cheaper}

-- where there is no link a test fails, and where its second part fails it does
first_fails : (weight : ℕ) (t : Bool) → weight ≡ 0 → (ltb 0 weight && t) ≡ false
first_fails weight t e = ap (λ s. s && t) (le-ltb 0 weight (omega arith))

second_fails : (s t : Bool) → t ≡ false → (s && t) ≡ false
second_fails true t e = e
second_fails false t e = refl

module _ (weight from now : ℕ) where
  pub no_link_cheaper : weight ≡ 0 → cheaper weight from now ≡ false
  no_link_cheaper e = first_fails weight (ltb (weight + from) now) e

  pub is_cheaper : weight ≢ 0 → weight + from < now → cheaper weight from now ≡ true
  is_cheaper s h = both_pass _ _ (lt-ltb 0 weight (omega arith)) (lt-ltb (weight + from) now h)

  pub no_cheaper : now ≤ weight + from → cheaper weight from now ≡ false
  no_cheaper h = second_fails (ltb 0 weight) _ (le-ltb (weight + from) now h)

  pub cheaper_says : cheaper weight from now ≡ true → (0 < weight) × (weight + from < now)
  cheaper_says e =
      let b = both (ltb 0 weight) (ltb (weight + from) now) e in
      (ltb-true 0 weight b.0, ltb-true (weight + from) now b.1)

  pub no_link_as_cheap : weight ≡ 0 → as_cheap weight from now ≡ false
  no_link_as_cheap e = first_fails weight (eqb (weight + from) now) e

  pub is_as_cheap : 0 < weight → weight + from ≡ now → as_cheap weight from now ≡ true
  is_as_cheap l e = both_pass _ _ (lt-ltb 0 weight l) (eq-eqb (weight + from) now e)

  pub not_as_cheap : weight + from ≢ now → as_cheap weight from now ≡ false
  not_as_cheap a = second_fails (ltb 0 weight) _ (ne_eqb (weight + from) now a)

  pub as_cheap_says : as_cheap weight from now ≡ true → (0 < weight) × (weight + from ≡ now)
  as_cheap_says e =
      let b = both (ltb 0 weight) (eqb (weight + from) now) e in
      (ltb-true 0 weight b.0, eqb-true (weight + from) now b.1)
