-- `search::reach` meets its contract.
-- Assumes nothing.
use mathlib.Core.Path.{refl, ◌∙◌, ap, subst}
use lib.Dec.{eqb}
use Prim.Native.Nat.{◌^◌, ◌<◌}
use native.Mathlib.Omega.{arith}
use borrow.Author.Rules.{rules}
use Rattle.rules.specs.Words.{pick}
use Rattle.webs.proofs.Webs.{is_web}
use Rattle.search.proofs.Arrays.{are_costs}
use Rattle.search.proofs.Easing.{none_eased, next_linked, fell_fits, one_eased, all_eased}
use Rattle.search.proofs.Carrying.{none_carried, one_carried, all_carried}
use Rattle.search.proofs.reach.Given.{Over}
use Rattle.search.proofs.reach.Goals as goal
use Rattle.search.proofs.reach.Goals.{In-Some}

-- the router that a link leads to
linked : (g : Over) (c : In-Some g) → c.in-Some.k < 64
linked g c = (next_linked _ _ _ _ _ _ _ _ c.loop-k.invariant.1 _ _ c.in-Some.ensures.steps).router

pub loop-k-init : goal.loop-k-init
loop-k-init g c = (
  0,
  none_eased _ _ _ _ (is_web _ _ (search rules) (search rules) (λ i. search rules) (λ z. search rules)) c.requires (are_costs _ c.told-costs c.fits-costs) _ (c.into_iter-k-iterator.ensures.into_iter_gives ∙ c.members-k-items.ensures),
  λ sets a h. (sets, none_carried _ _ _ _ _ _ a, h),
)

pub handed-over-requires : goal.handed-over-requires
handed-over-requires g c = linked g (goal.at.handed-over-requires g c).In-Some

pub overflow_add-m : goal.overflow_add-m
overflow_add-m g c = omega (arith, linked g (goal.at.overflow_add-m g c).In-Some)

pub offset_bounds-web-m-in-loop-k : goal.offset_bounds-web-m-in-loop-k
offset_bounds-web-m-in-loop-k g c = omega (arith, linked g (goal.at.offset_bounds-web-m-in-loop-k g c).In-Some)

pub bounds-web-m-in-loop-k : goal.bounds-web-m-in-loop-k
bounds-web-m-in-loop-k g c = omega (arith, linked g (goal.at.bounds-web-m-in-loop-k g c).In-Some)

pub reach_one-fallen-requires : goal.reach_one-fallen-requires
reach_one-fallen-requires g c = linked g (goal.at.reach_one-fallen-requires g c).In-Some

pub overflow_add-fallen : goal.overflow_add-fallen
overflow_add-fallen g c =
    let e = c.loop-k.invariant.1 in
    let t = next_linked _ _ _ _ _ _ _ _ e _ _ c.in-Some.ensures.steps in
    let r = c.reach_one-fallen.ensures in
    record { fits = fell_fits _ _ _ _ _ _ _ _ (one_eased _ _ _ _ _ _ _ _ e _ _ t _ _ r.0 r.1) }

pub loop-k-preserved : goal.loop-k-preserved
loop-k-preserved g c =
    let (p, e, w) = c.loop-k.invariant in
    let t = next_linked _ _ _ _ _ _ _ _ e _ _ c.in-Some.ensures.steps in
    let r = c.reach_one-fallen.ensures in (
      _,
      one_eased _ _ _ _ _ _ _ _ e _ _ t _ _ r.0 r.1,
      λ sets a h. let (after, s, i) = w sets a h in (
        _,
        one_carried _ _ _ _ _ _ _ _ _ _ e _ s _ _ t _ (c.handed-over.ensures ∙ ap (pick (eqb c.args.m c.args.router) (2 ^ c.in-Some.k)) (c.hops-hops.ensures sets h)) _ refl,
        r.2 after s.are i,
      ),
    )

pub returns : goal.returns
returns g c =
    let (p, e, w) = c.loop-k.invariant in
    let z = c.in-None.ensures.steps.0 in
    let f = all_eased _ _ _ _ _ _ _ _ e z in (
      f.0,
      f.1,
      λ sets a h.
          let (after, s, i) = w sets a h in
          subst (g.C.Carried.Is _) (all_carried _ _ _ _ _ _ _ _ _ _ e _ s z) i,
    )
