-- `tracer::tracer_read` meets its contract.
-- Assumes nothing.
use Rattle.std.proofs.Common.{rules, refl}
use Rattle.tracer.specs.Packed.{reading_bytes}
use Rattle.tracer.proofs.Packing.{told_packed}
use Rattle.tracer.proofs.tracer_read.Goals as goal

pub returns : goal.returns
unfolding reading_bytes
returns c = told_packed _ _ _ c.read.ensures.0 reading_bytes refl _ (search rules)
