-- `lines::router_lines` meets its contract.
-- Assumes nothing.
use mathlib.Core.Path.{◌≡◌, sym, ◌∙◌, ap}
use Prim.Native.Nat.{◌<◌, min}
use native.Mathlib.Omega.{arith}
use mir.Syntax.{w32}
use mir.Val.{Fits}
use lib.ListN.{length, get_or}
use borrow.Author.Rules.{rules}
use Rattle.search.specs.declared.Found.{Found}
use Rattle.lines.specs.Lines.{lines_found, lines_over}
use Rattle.lines.proofs.Pages.{nothing_put, put_more, put_as, put_first}
use Rattle.lines.proofs.Lines.{line_short}
use Rattle.lines.proofs.Others.{lines_below, no_lines, own_passed, one_listed}
use Rattle.lines.proofs.router_lines.Goals as goal
use Rattle.lines.proofs.router_lines.Goals.{then-d-router, else-d-router}

pub loop-d-init : goal.loop-d-init
loop-d-init c = record { put = put_as (nothing_put _) (sym (no_lines c.all_from-found.result c.args.router)); short = omega (arith, c.begin-page.ensures.nothing) }

pub loop-d-preserved : goal.loop-d-preserved
loop-d-preserved c =
    elim c.if-d-router.branch [
      | then-d-router w ↦
          let costs = c.all_from-found.result.costs in
          let d = c.loop-d.d in
          let h : d < length costs = search rules in
          let f : Fits w32 (get_or costs d 0) = search rules in
          rw w.page-is record {
            put = put_as (put_more c.loop-d.invariant.put w.line-page.ensures) (sym (one_listed _ _ d w.if-d-router.true h));
            short =
                omega (
                  arith,
                  c.loop-d.invariant.short,
                  w.line-page.ensures.behind,
                  line_short c.args.router d (get_or costs d 0) (get_or c.all_from-found.result.sets d 0) c.ranges.router.fits (omega arith) f.fits,
                );
          }
      | else-d-router w ↦ rw w.page-is record {
        put = put_as c.loop-d.invariant.put (sym (own_passed _ _ _ w.if-d-router.false));
        short = omega (arith, c.loop-d.invariant.short);
      }
    ]

pub returns : goal.returns
unfolding lines_found lines_over
returns c =
    let a = c.args in
    let f = c.all_from-found.result in
    let e : c.loop-d.d ≡ min a.routers 64 = omega (arith, c.min-d-end.ensures) in
    let s = ap (λ d. lines_below f a.router d) e ∙ ap (λ (f : Found). lines_found f a.routers a.router) c.all_from-found.ensures in
    put_first (put_as c.loop-d.invariant.put s) c.begin-page.ensures.same c.begin-page.ensures.nothing (search rules)
