-- `records::is_plain` meets its contract.
-- Assumes nothing.
use mathlib.Core.Path.{◌∙◌}
use borrow.Author.Tests.{tests}
use Rattle.std.proofs.Common.{rules}
use Rattle.std.proofs.lemmas.Iterator.{YieldsList-from_slice}
use Rattle.std.proofs.lemmas.Iterator.Search.{all_from_yields_List}
use Rattle.rules.specs.Table.{name_byte}
use Rattle.rules.proofs.Basics.{list_all_every}
use Rattle.records.proofs.is_plain.Goals as goal

pub returns : goal.returns
unfolding name_byte
returns c =
    all_from_yields_List name_byte _ _ c.all.result c.all.ensures.ran (YieldsList-from_slice c.args.name.now cc) (λ x b q k. search (rules, tests))
    ∙ list_all_every name_byte c.args.name.now
