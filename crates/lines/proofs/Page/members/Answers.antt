-- `lines::Page::members` meets its contract.
-- Assumes nothing.
use mathlib.Core.Path.{sym, ◌∙◌, ap}
use mathlib.Core.List.{[], ◌∷◌, ◌++◌, append_assoc}
use native.Mathlib.Omega.{arith}
use Rattle.rules.specs.Listing.{joined_by_commas}
use Rattle.lines.proofs.Pages.{nothing_put, put_more, put_as}
use Rattle.lines.proofs.Commas.{no_members_joined, next_joined, room_for_first, room_for_next}
use Rattle.lines.proofs.Page.members.Goals as goal

pub returns-in_default : goal.returns-in_default
returns-in_default c = put_as (nothing_put _) (sym (no_members_joined _ (sym c.members-left.ensures ∙ c.in_default.ensures.steps.0)))

pub decimal-page-requires : goal.decimal-page-requires
decimal-page-requires c = omega (arith, room_for_first _ _ _ (sym c.members-left.ensures ∙ c.in-Some.ensures.steps))

pub loop-k-init : goal.loop-k-init
unfolding joined_by_commas
loop-k-init c = record {
  all = sym c.members-left.ensures ∙ c.in-Some.ensures.steps ∙ ap (λ l. c.in-Some.first ∷ l) (sym c.into_iter-k-iterator.ensures.into_iter_gives);
  put = c.decimal-page.ensures;
}

pub byte-requires : goal.byte-requires
byte-requires c =
    let w = c.loop-k.invariant in
    omega (arith, w.put.behind, room_for_next _ _ _ _ _ (w.all ∙ ap (λ l. c.in-Some.first ∷ (c.loop-k.yielded ++ l)) c.in-Some-k.ensures.steps))

pub decimal-page-requires-in-loop-k : goal.decimal-page-requires-in-loop-k
decimal-page-requires-in-loop-k c =
    let w = c.loop-k.invariant in
    omega (
      arith,
      w.put.behind,
      c.byte.ensures.behind,
      room_for_next _ _ _ _ _ (w.all ∙ ap (λ l. c.in-Some.first ∷ (c.loop-k.yielded ++ l)) c.in-Some-k.ensures.steps),
    )

pub loop-k-preserved : goal.loop-k-preserved
loop-k-preserved c =
    let w = c.loop-k.invariant in
    record {
      all = w.all ∙ ap (λ l. c.in-Some.first ∷ l) (ap (λ l. c.loop-k.yielded ++ l) c.in-Some-k.ensures.steps ∙ sym (append_assoc c.loop-k.yielded (c.in-Some-k.k ∷ []) _));
      put = put_as (put_more (put_more w.put c.byte.ensures) c.decimal-page-in-loop-k.ensures) (sym (next_joined _ _ _));
    }
