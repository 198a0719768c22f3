-- `tracer::tracer_pair` meets its contract.
-- Assumes nothing.
use Rattle.std.proofs.Common.{rules, refl}
use Rattle.tracer.specs.Packed.{pairing_bytes}
use Rattle.tracer.proofs.Packing.{told_packed}
use Rattle.tracer.proofs.tracer_pair.Goals as goal

pub returns : goal.returns
unfolding pairing_bytes
returns c = told_packed _ _ _ c.pair.ensures.0 pairing_bytes refl _ (search rules)
