-- `webs::web_of` meets its contract: at each turn the web is that of the links before.
use mathlib.Core.Path.{◌≡◌}
use Rattle.webs.proofs.Laying.{web_so_far}
use Rattle.webs.proofs.web_of.Given as goal

abbrev pub invariant-loop-i : goal.invariant-loop-i
invariant-loop-i l = l.web ≡ web_so_far l.table l.t.start l.i
