-- `links::first_place` meets its contract: an accepted table has its own outline, and a refused one no links.
-- Assumes nothing.
use mathlib.Core.Path.{sym, ◌∙◌, ap}
use Rattle.tables.specs.declared.Outline.{Outline}
use Rattle.links.proofs.Stand.{start_of_accepted, start_of_refused}
use Rattle.links.proofs.first_place.Goals as goal

pub returns-in-Ok : goal.returns-in-Ok
returns-in-Ok c =
    rw c.in-Ok.ensures at (ap (λ (o : Outline). o.start) c.in-Ok.t.outlined ∙ sym (start_of_accepted _ c.in-Ok.t.accepted))

pub returns-in-Err : goal.returns-in-Err
returns-in-Err c = sym (start_of_refused _ c.in-Err.ensures.0)
