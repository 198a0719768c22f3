-- `paths::follow_packet` meets its contract.
-- Assumes nothing.
use borrow.Author.Rules.{rules}
use Rattle.paths.proofs.Following.{in_places, ending_told, visited_told}
use Rattle.paths.proofs.follow_packet.Goals as goal

pub bounds-visited-visited : goal.bounds-visited-visited
bounds-visited-visited c = in_places _ _ _ _ _ c.requires _ c.args.visited.now _ (search rules) _ c.arrive-outcome.ensures (search rules)

pub returns : goal.returns
returns c = (
  ending_told _ _ _ _ _ c.requires _ c.args.visited.now _ (search rules) _ c.arrive-outcome.ensures (search rules),
  visited_told _ _ _ _ _ c.requires _ c.args.visited.now _ (search rules) _ c.arrive-outcome.ensures (search rules),
)
