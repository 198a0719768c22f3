-- `tracer::tracer_entry` meets its contract.
-- Assumes nothing.
use Rattle.std.proofs.Common.{rules, refl}
use Rattle.tracer.specs.Packed.{alone}
use Rattle.tracer.proofs.Packing.{told_packed}
use Rattle.tracer.proofs.tracer_entry.Goals as goal

pub returns : goal.returns
returns c = told_packed _ _ _ c.entry_of.ensures.0 alone refl _ (search rules)
