-- `links::link_at` meets its contract.
-- Assumes nothing.
use native.Mathlib.Omega.{arith}
use borrow.Author.Tests.{eqb-true, eqb-false}
use Rattle.links.proofs.Place.{cut, tells_none, tells_other, tells_one}
use Rattle.links.proofs.link_at.Goals as goal

pub returns-in_err-get : goal.returns-in_err-get
returns-in_err-get c = rw c.from_residual.ensures (tells_none _ _ (cut _ _ (grind (arith, c.in_err-get.ensures.lookup))))

pub returns-in-4 : goal.returns-in-4
returns-in-4 c =
    let l = c.in_ok-get.ensures.lookup.0 in
    tells_one _ _ _ l.2 l.0 _ c.in-4.len_at_least l.3 (grind (arith, eqb-true)) (omega arith) (omega arith) c.joined.ensures

pub returns-in_default : goal.returns-in_default
returns-in_default c = let l = c.in_ok-get.ensures.lookup.0 in tells_none _ _ (cut _ _ (omega (arith, l.3)))

pub returns-in_default-2 : goal.returns-in_default-2
returns-in_default-2 c = let l = c.in_ok-get.ensures.lookup.0 in tells_other _ _ _ l.2 l.0 (λ p. omega (arith, p))

pub returns-in_default-3 : goal.returns-in_default-3
returns-in_default-3 c = let l = c.in_ok-get.ensures.lookup.0 in tells_other _ _ _ l.2 l.0 (λ p. omega (arith, p))

pub returns-in_default-4 : goal.returns-in_default-4
returns-in_default-4 c = let l = c.in_ok-get.ensures.lookup.0 in tells_other _ _ _ l.2 l.0 (λ p. grind (arith, eqb-false, p))
