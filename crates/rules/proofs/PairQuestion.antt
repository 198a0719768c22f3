-- What is proved of two tables together.
-- Assumes nothing.
use mathlib.Core.Path.{◌≡◌, refl}
use mathlib.Core.Logic.{◌↔◌}
use mathlib.Core.Bool.{not, false}
use mathlib.Core.List.{[], ◌∷◌}
use Prim.Native.Nat.{◌≤◌}
use native.Mathlib.Omega.{arith}
use lib.Dec.{eqb}
use borrow.Author.Tests.{ltb-false, le-ltb, eqb-true, eq-eqb, not-false}
use Rattle.rules.specs.Layout.{Table}
use Rattle.rules.specs.Table.{says}
use Rattle.rules.specs.Pairs.{differing, too_different}
use Rattle.rules.specs.Answers.{Exactly}
use Rattle.rules.specs.PairQuestion.{PairInputs, no_pairing, pairing, pair_refusals, pair_answer, pair_cases, PairProved}
use Rattle.rules.proofs.Basics.{neither}
use Rattle.rules.proofs.Answers.{tables_first, listed_numbers}

-- what 8 asks for
pub asks_pair : (old new : Table) → (too_different old new ≡ false) ↔ ((old.routers ≡ new.routers) × (differing old new ≤ 1))
unfolding too_different
asks_pair old new = (
  λ e.
      let n = neither (not (eqb old.routers new.routers)) _ e in
      (eqb-true old.routers new.routers (not-false _ n.0), omega (arith, ltb-false _ (differing old new) n.1)),
  λ h. rw (eq-eqb old.routers new.routers h.0) (le-ltb 1 (differing old new) h.1),
)

pub pair_proved : (q : PairInputs) → PairProved q
unfolding pair_answer
pair_proved q = record {
  exactly = x;
  asked = (
    λ e. let (a, (b, ((s, l), z))) = x.asked.0 e in record { old_accepted = a; new_accepted = b; same_routers = s; one_link = l },
    λ h. x.asked.1 (h.old_accepted, (h.new_accepted, ((h.same_routers, h.one_link), tt))),
  );
  refusals = listed_numbers _ (q.old ∷ q.new ∷ []) (pair_refusals (says q.old) (says q.new)) _ _;
}
  where
    x : Exactly (pair_cases q) no_pairing (pairing (says q.old) (says q.new)) (pair_answer q)
    x =
        tables_first _ (q.old ∷ q.new ∷ []) (pair_refusals (says q.old) (says q.new)) _ _ _
        (refl, asks_pair (says q.old) (says q.new), tt) (omega arith, tt)
