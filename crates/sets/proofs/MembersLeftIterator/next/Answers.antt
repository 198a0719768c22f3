-- `next` of a set's members meets its contract.
-- Assumes nothing.
use mathlib.Core.Path.{sym, ◌∙◌, ap}
use native.Mathlib.Omega.{arith}
use borrow.Author.Rules.{rules}
use lib.ListN.{length}
use Rattle.rules.specs.NextHops.{members}
use Rattle.sets.proofs.Walk.{no_members, lowest_first}
use Rattle.sets.proofs.MembersLeftIterator.next.Goals as goal

pub returns-then-self-eq0-clause-steps : goal.returns-then-self-eq0-clause-steps
returns-then-self-eq0-clause-steps c =
    let e = sym c.self.view_is ∙ ap members c.if-self-eq0.true ∙ no_members in
    (e, e)

pub returns-clause-steps : goal.returns-clause-steps
returns-clause-steps c = sym c.self.view_is ∙ lowest_first c.self.inside.rest (omega arith) (search rules)

pub returns-clause-goes : goal.returns-clause-goes
returns-clause-goes c =
    let e = sym c.self.view_is ∙ lowest_first c.self.inside.rest (omega arith) (search rules) in
    record { on = λ t. (tt, tt, omega (arith, ap length e)); keeps = tt; rests = λ t. tt }
