-- `printing::print_lines` meets its contract.
-- Assumes nothing.
use Rattle.std.proofs.Common.{sym, ◌∙◌, subst}
use Rattle.std.specs.Io.KnownBytes.{Appends}
use Rattle.std.proofs.KnownBytes.{Appends-trans}
use Rattle.streams.specs.Streams.{AppendsFront}
use Rattle.streams.proofs.Fronts.{front_behind, front_alone, on_err}
use Rattle.printing.proofs.Pages.{no_pages, page_more, first_bytes, page_bytes, all_pages, page_within, header_first}
use Rattle.printing.proofs.print_lines.Goals as goal

pub returns-in_err-write_whole-clause-err : goal.returns-in_err-write_whole-clause-err
returns-in_err-write_whole-clause-err g c =
    let part = subst (AppendsFront _ _) (first_bytes c.header-length.ensures) c.in_err-write_whole.ensures.err in
    on_err _ (subst (AppendsFront _ _) (sym (header_first c.args.table.now c.args.t)) (front_alone _ _ _ _ part))

pub loop-router-init : goal.loop-router-init
loop-router-init g c =
    subst (Appends _ _) (first_bytes c.header-length.ensures ∙ no_pages c.args.table.now c.args.t) c.in_ok-write_whole.ensures.ok

pub returns-in_err-write_whole-2-clause-err : goal.returns-in_err-write_whole-2-clause-err
returns-in_err-write_whole-2-clause-err g c =
    let page = page_bytes c.args.table.now c.args.t c.loop-router.router c.web_of-web.ensures c.router_lines-length.ensures in
    let within = page_within c.args.table.now c.args.t c.loop-router.router c.loop-router-test.true in
    let part = subst (AppendsFront _ _) page c.in_err-write_whole-2.ensures.err in
    on_err _ (subst (AppendsFront _ _) (sym within.1) (front_behind _ _ _ _ _ within.0 c.loop-router.invariant part))

pub loop-router-preserved : goal.loop-router-preserved
loop-router-preserved g c =
    let before = g.W.Write.contents c.args.out.now in
    let now = g.W.Write.contents c.loop-router.out in
    let after = g.W.Write.contents c.write_whole-in-loop-router.new.out in
    let page = page_bytes c.args.table.now c.args.t c.loop-router.router c.web_of-web.ensures c.router_lines-length.ensures in
    let part = subst (Appends now after) page c.in_ok-write_whole-2.ensures.ok in
    subst (Appends before after) (page_more c.args.table.now c.args.t _) (Appends-trans before now after _ _ c.loop-router.invariant part)

pub returns-clause-ok : goal.returns-clause-ok
returns-clause-ok g c =
    let all = all_pages c.args.table.now c.args.t c.loop-router.router c.loop-router.auto.router-end c.loop-router-test.false in
    subst (Appends _ _) all c.loop-router.invariant
