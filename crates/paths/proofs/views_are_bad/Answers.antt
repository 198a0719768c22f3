-- `paths::views_are_bad` meets its contract.
-- Assumes nothing.
use mathlib.Core.Bool.{not}
use lib.Dec.{leb}
use lib.ListN.{take}
use Prim.Native.Nat.{◌-◌}
use Rattle.std.proofs.Common.{rules, tests}
use Rattle.std.proofs.lemmas.Iterator.{YieldsList-from_slice}
use Rattle.std.proofs.lemmas.Iterator.Search.{any_from_yields_List}
use Rattle.paths.proofs.Answers.{first_views}
use Rattle.paths.proofs.views_are_bad.Goals as goal

pub returns : goal.returns
returns c =
    let any =
    any_from_yields_List (λ v. not (leb v 1)) _ _ c.any.result c.any.ensures.ran (YieldsList-from_slice (take (c.args.routers - 1) c.args.views.now) cc)
    (λ x b q k. search (rules, tests))
    in
    first_views _ _ _ any c.if-views-count.false
