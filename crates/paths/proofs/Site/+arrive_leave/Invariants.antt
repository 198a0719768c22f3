-- `paths::arrive` and `paths::leave` take turns: with each link that is crossed one hop less is left, and arriving comes before leaving.
use Prim.Native.Nat.{◌+◌, ◌*◌}
use Rattle.paths.proofs.Site.+arrive_leave.Given as goal

abbrev pub decreases-arrive : goal.decreases-arrive
decreases-arrive l = 2 * l.left + 1

abbrev pub decreases-leave : goal.decreases-leave
decreases-leave l = 2 * l.left
