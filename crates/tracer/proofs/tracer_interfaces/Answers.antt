-- `tracer::tracer_interfaces` meets its contract.
-- Assumes nothing.
use Rattle.std.proofs.Common.{rules, refl}
use Rattle.tracer.specs.Packed.{alone}
use Rattle.tracer.proofs.Packing.{told_packed}
use Rattle.tracer.proofs.tracer_interfaces.Goals as goal

pub returns : goal.returns
returns c = (told_packed _ _ _ c.interfaces.ensures.0 alone refl _ (search rules), c.interfaces.ensures.1)
