-- `tracer::tracer_path` meets its contract.
-- Assumes nothing.
use Rattle.std.proofs.Common.{rules, refl}
use Rattle.rules.proofs.PathQuestion.{path_proved}
use Rattle.tracer.specs.Packed.{ending_bytes}
use Rattle.tracer.proofs.Packing.{told_packed, told_near}
use Rattle.tracer.proofs.tracer_path.Goals as goal

pub map_or_else-requires-clause-default_callable : goal.map_or_else-requires-clause-default_callable
map_or_else-requires-clause-default_callable c = told_near _ _ _ c.path.ensures.0 (path_proved _).refusals.listed.near

pub returns : goal.returns
unfolding ending_bytes
returns c = (told_packed _ _ _ c.path.ensures.0 ending_bytes refl _ (search rules), c.path.ensures.1)
