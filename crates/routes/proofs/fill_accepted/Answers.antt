-- `routes::fill_accepted` meets its contract: the table's own costs and sets, found over its web.
-- Assumes nothing.
use Rattle.routes.proofs.Found.{costs_found, sets_found}
use Rattle.routes.proofs.fill_accepted.Goals as goal

pub returns : goal.returns
returns c =
    let t = c.args.table in
    let e = c.web_of-web.ensures in
    let f = c.costs_from-found.ensures in (
      costs_found _ t.accepted _ t.outlined _ e _ _ f _ _ c.copy_from_slice.ensures.after,
      sets_found _ t.accepted _ t.outlined _ e _ _ f _ _ c.requires.0 _ c.sets_by-hops.ensures c.copy_from_slice-2.ensures.after,
    )
