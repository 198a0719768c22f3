-- `tables::judge` meets its contract. The loop keeps what judging from the place on tells of the whole; each record ends further on.
use mathlib.Core.Path.{◌≡◌}
use Prim.Native.Nat.{◌-◌, ◌≤◌}
use lib.ListN.{length}
use Rattle.rules.specs.Table.{judge}
use Rattle.records.specs.Steps.{kept_of}
use Rattle.tables.specs.Readings.{judging_answer}
use Rattle.tables.proofs.Turns.{told_from}
use Rattle.tables.proofs.judge.Given as goal

abbrev pub invariant-loop-tag : goal.invariant-loop-tag
invariant-loop-tag l = (l.kept.links ≤ 256) × (told_from l.table l.place (kept_of l.kept) ≡ judging_answer (judge l.table))

abbrev pub decreases-loop-tag : goal.decreases-loop-tag
decreases-loop-tag l = length l.table - l.place
