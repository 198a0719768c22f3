-- `tracer::tracer_fill` meets its contract.
-- Assumes nothing.
use Rattle.std.proofs.Common.{rules, refl}
use Rattle.tracer.specs.Packed.{alone}
use Rattle.tracer.proofs.Packing.{told_packed}
use Rattle.tracer.proofs.tracer_fill.Goals as goal

pub returns : goal.returns
returns c = (told_packed _ _ _ c.fill.ensures.0 alone refl _ (search rules), c.fill.ensures.1, c.fill.ensures.2)
