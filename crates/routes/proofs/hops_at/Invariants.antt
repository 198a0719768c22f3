-- `routes::hops_at` meets its contract: a walk over the routers that it is linked to.
use Rattle.routes.proofs.Hops.{Walked}
use Rattle.routes.proofs.hops_at.Given as goal

abbrev pub invariant-loop-k : goal.invariant-loop-k
invariant-loop-k l = Walked l.web.near l.web.weights l.costs l.i l.set l.k-iterator
