-- `tracer::tracer_name_in` meets its contract.
-- Assumes nothing.
use Rattle.std.proofs.Common.{rules, refl}
use Rattle.rules.proofs.NameQuestions.{name_proved}
use Rattle.tracer.specs.Packed.{name_bytes}
use Rattle.tracer.proofs.Packing.{told_packed, told_named, named_fits}
use Rattle.tracer.proofs.tracer_name_in.Goals as goal

pub map_or_else-requires-clause-f_callable : goal.map_or_else-requires-clause-f_callable
map_or_else-requires-clause-f_callable c =
    let e = c.naming_in.ensures in
    named_fits _ _ _ e.0 e.1 _ (name_proved _).fits

pub returns : goal.returns
unfolding name_bytes
returns c =
    let e = c.naming_in.ensures in
    told_packed _ _ _ e.0 (name_bytes _) refl _ (told_named _ _ e.1 _ _ (search rules))
