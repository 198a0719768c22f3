-- `paths::Site::arrive` and `paths::Site::leave` meet their contracts: one law for each way out.
-- Assumes nothing.
use mathlib.Core.Path.{sym, ◌∙◌}
use Prim.Native.Nat.{◌^◌, ◌<◌}
use native.Mathlib.Omega.{arith}
use lib.ListN.{get_or}
use borrow.Author.Rules.{rules}
use Rattle.paths.proofs.Following.{none_left, left_over, left_lost, standing_there, delivers_here, discards_here, no_route_here, leaves_here}
use Rattle.paths.proofs.Site.+arrive_leave.Goals as goal

pub arrive-returns-in-Deliver : goal.arrive-returns-in-Deliver
arrive-returns-in-Deliver t c = delivers_here c.args.self.now _ _ _ _ c.entry_at.ensures _ c.args.visited.now _ c.visit.ensures c.in-Deliver.is

pub arrive-returns-in-Discard : goal.arrive-returns-in-Discard
arrive-returns-in-Discard t c = discards_here c.args.self.now _ _ _ _ c.entry_at.ensures _ c.args.visited.now _ c.visit.ensures c.in-Discard.is

pub arrive-returns-in-NoRoute : goal.arrive-returns-in-NoRoute
arrive-returns-in-NoRoute t c = no_route_here c.args.self.now _ _ _ _ c.entry_at.ensures _ c.args.visited.now _ c.visit.ensures c.in-NoRoute.is

pub arrive-returns-in-Forward : goal.arrive-returns-in-Forward
arrive-returns-in-Forward t c = leaves_here c.args.self.now _ _ _ _ c.entry_at.ensures _ c.args.visited.now _ c.visit.ensures _ c.in-Forward.is _ _ c.leave.ensures

pub leave-returns-then-left-eq0 : goal.leave-returns-then-left-eq0
leave-returns-then-left-eq0 t c = none_left c.args.self.now _ _ _ _ c.args.visited.now c.requires.1 c.if-left-eq0.true

pub leave-arrive-requires : goal.leave-arrive-requires
leave-arrive-requires t c =
    let fits : get_or c.args.self.now.guides.now.carriers c.args.router 0 < 2 ^ 64 = search rules in
    (omega (arith, c.if-left-eq0.false), standing_there _ _ _ _ _ c.requires.0 fits (sym c.has.ensures ∙ c.if-has.true) c.if-left-eq0.false)

pub leave-returns-then-has : goal.leave-returns-then-has
leave-returns-then-has t c = left_over c.args.self.now _ _ _ _ c.args.visited.now (sym c.has.ensures ∙ c.if-has.true) c.if-left-eq0.false _ _ c.arrive.ensures

pub leave-returns : goal.leave-returns
leave-returns t c = left_lost c.args.self.now _ _ _ _ c.args.visited.now c.requires.1 (sym c.has.ensures ∙ c.if-has.false)
