-- `paths::path_in` meets its contract.
-- Assumes nothing.
use Rattle.std.proofs.lemmas.Result.{err_from_is_err_and}
use Rattle.paths.proofs.Answers.{room_refused, path_told}
use Rattle.paths.proofs.Following.{few_hops, told_trace}
use Rattle.paths.proofs.OverTables.{lent, same_path}
use Rattle.paths.proofs.path_in.Goals as goal

pub follow_packet-ending-requires : goal.follow_packet-ending-requires
follow_packet-ending-requires c = lent c.args.tables _ _ _ _ c.requires

pub tell-requires : goal.tell-requires
tell-requires c =
    let l = lent c.args.tables _ _ _ _ c.requires in
    (few_hops _ _ _ _ _ l _ c.follow_packet-ending.ensures.0, l.few)

pub returns-in_err-tell : goal.returns-in_err-tell
returns-in_err-tell c =
    let p = err_from_is_err_and c.from_residual.result c.from_residual.ensures.1 in
    let (a, x) = c.in_err-tell.ensures in
    rw (p.1, p.2) (room_refused c.args.tables _ _ _ _ c.requires _ _ _ a x)

pub returns : goal.returns
returns c =
    let t = c.args.tables in
    let p = c.requires in
    let (e, v) = c.follow_packet-ending.ensures in
    let same = same_path t _ _ _ _ p _ c.guides_to-guides.ensures in
    path_told t _ _ _ _ p _ same _ e _ (told_trace _ _ _ _ _ (lent t _ _ _ _ p) _ e _ _ v _) _ c.in_ok-tell.ensures
