-- `Web::lay` of webs meets its contract.
-- Assumes nothing.
use native.Mathlib.Omega.{arith}
use borrow.Author.Rules.{rules}
use Rattle.webs.proofs.Laying.{unfit, web_kept, web_put}
use Rattle.webs.proofs.Web.lay.Goals as goal
use Rattle.webs.proofs.Web.lay.Goals.{else-link-via-then-link+then-link-lt64+else-link-ne0, else-link-via-then-link+else-link-lt64, else-link-via-else-link}

pub returns-then-link-ne0 : goal.returns-then-link-ne0
returns-then-link-ne0 c =
    web_put _ (record { ends_rise = c.if-link.true; end_below = c.if-link-lt64.true; weight_above_0 = omega arith; weight_fits = search rules }) _

pub returns-else-link : goal.returns-else-link
returns-else-link c = web_kept _ (unfit _ (λ f. elim c.else-link.branch [
  | else-link-via-then-link+then-link-lt64+else-link-ne0 w ↦ omega (arith, f, w)
  | else-link-via-then-link+else-link-lt64 w ↦ omega (arith, f, w)
  | else-link-via-else-link w ↦ omega (arith, f, w)
])) _
