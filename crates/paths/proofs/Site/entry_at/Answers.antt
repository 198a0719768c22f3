-- `paths::Site::entry_at` meets its contract.
-- Assumes nothing.
use Rattle.paths.proofs.Following.{found_home, found_by}
use Rattle.paths.proofs.Site.entry_at.Goals as goal

pub returns-then-router-self : goal.returns-then-router-self
returns-then-router-self c = found_home c.args.self.now _ _ _ c.if-router-self.true

pub returns : goal.returns
returns c = found_by c.args.self.now _ _ _ _ c.sets-sets.ensures _ c.decide.ensures
