-- `printing::print_listing` meets its contract: what its two ways print is the listing.
-- Assumes nothing.
use Rattle.std.proofs.Common.{◌∙◌}
use Rattle.std.specs.Prelude.{Ok, Err}
use Rattle.printing.proofs.Listings.{prints_the_listing}
use Rattle.printing.proofs.Pages.{refusal_alone}
use Rattle.printing.proofs.print_listing.Goals as goal

pub returns-in-Ok : goal.returns-in-Ok
returns-in-Ok g c =
    let same = prints_the_listing c.args.table.now (Ok c.in-Ok.t) c.in-Ok.ensures in
    rw (← same) c.print_lines.ensures

pub returns-in-Err : goal.returns-in-Err
returns-in-Err g c =
    let same = refusal_alone c.args.table.now c.in-Err.refusal ∙ prints_the_listing c.args.table.now (Err c.in-Err.refusal) c.in-Err.ensures in
    rw (← same) c.print_refusal.ensures
