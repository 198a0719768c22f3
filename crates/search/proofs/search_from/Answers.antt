-- `search::search_from` meets its contract. The measure falls because a cost falls, or else a router waits no more.
-- Assumes nothing.
use mathlib.Core.Path.{refl, subst}
use native.Mathlib.Omega.{arith}
use borrow.Author.Rules.{rules}
use Rattle.webs.proofs.Webs.{is_web, web_net}
use Rattle.sets.proofs.Bits.{member_weight}
use Rattle.sets.proofs.ByMembers.{one_bit}
use Rattle.search.proofs.Searching.{first_step, one_step, all_found, none_found}
use Rattle.search.proofs.Gathering.{none_gathered, one_gathered, all_gathered, no_router}
use Rattle.search.proofs.search_from.Goals as goal

pub returns-then-router-ge64 : goal.returns-then-router-ge64
returns-then-router-ge64 g c =
    let n = web_net _ _ (is_web _ _ (search rules) (search rules) (λ i. search rules) (λ z. search rules)) in
    (none_found _ n _ c.if-router-ge64.true, λ sets e i. subst (g.C.Carried.Is _) (no_router n _ _ e c.if-router-ge64.true) i)

pub loop-waiting-init : goal.loop-waiting-init
loop-waiting-init g c = (
  web_net _ _ (is_web _ _ (search rules) (search rules) (λ i. search rules) (λ z. search rules)),
  first_step _ _ (search rules) _ refl _ (one_bit _ (search rules)),
  λ sets e i. (sets, none_gathered _ _ (search rules) _ refl _ (one_bit _ (search rules)) _ e, i),
)

pub overflow_sub-waiting : goal.overflow_sub-waiting
overflow_sub-waiting g c =
    let q = c.nearest-m.ensures in
    omega (arith, one_bit _ q.router, member_weight _ _ q.member)

pub loop-waiting-smaller : goal.loop-waiting-smaller
loop-waiting-smaller g c =
    let (n, o, w) = c.loop-waiting.invariant in
    let q = c.nearest-m.ensures in
    let r = c.reach-fallen.ensures in
    (one_step _ _ n _ _ o _ q _ (one_bit _ q.router) _ r.0 _ r.1).1

pub loop-waiting-preserved : goal.loop-waiting-preserved
loop-waiting-preserved g c =
    let (n, o, w) = c.loop-waiting.invariant in
    let q = c.nearest-m.ensures in
    let r = c.reach-fallen.ensures in (
      n,
      (one_step _ _ n _ _ o _ q _ (one_bit _ q.router) _ r.0 _ r.1).0,
      λ sets e i.
          let (before, s, h) = w sets e i in
          (_, one_gathered n _ _ _ o _ s _ q _ (one_bit _ q.router) _ r.0 _ r.1 _ refl, r.2 before s.are h),
    )

pub returns : goal.returns
returns g c =
    let (n, o, w) = c.loop-waiting.invariant in (
      all_found _ n _ _ _ o c.loop-waiting-test.false,
      λ sets e i.
          let (before, s, h) = w sets e i in
          subst (g.C.Carried.Is _) (all_gathered n _ _ _ _ o s c.loop-waiting-test.false) h,
    )
