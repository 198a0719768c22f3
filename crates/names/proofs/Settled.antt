-- Each promise of this crate allows one answer: the companion's answers are equal, and so are the parts handed back.
-- Assumes nothing.
use mathlib.Core.Path.{◌≡◌, refl, sym, ◌∙◌}
use mathlib.Core.List.{List}
use Prim.Native.Nat.{ℕ}
use denote.Ref.{Bor}
use Rattle.std.specs.Prelude.{Option, Some, None}
use Rattle.rules.specs.Words.{◌=?◌, pick}
use Rattle.rules.specs.Names.{Part}
use Rattle.rules.specs.NameQuestions.{NameInputs, name_answer, name_part, TwoNamesInputs, two_names_answer, two_names_part}
use Rattle.rules.specs.Promises.{Settles}
use Rattle.refusals.specs.declared.Which.{Which}
use Rattle.refusals.specs.declared.Which.TheVariants.{Old, New}
use Rattle.refusals.specs.Refusals.{table_number}
use Rattle.refusals.proofs.Settled.{answer_settled}
use Rattle.names.specs.Namings.{named_number, IsNamed, NamesIn, NamesInTwo}
use Rattle.names.specs.Parts.{PartAt, GivesName, GivesNameOfTwo}
use Rattle.names.specs.declared.Part.{Part as PartHere}

-- ---- the companion's answer: a name is this part

-- which table is had again from its number
which_of : ℕ → Which
which_of n = pick (n =? 0) Old New

which_again : (which : Which) → which_of (table_number which) ≡ which
unfolding which_of
which_again Old = refl
which_again New = refl

module _ (part : Part) where
  name_from : ℕ → Option PartHere
  name_from n = pick (n =? 0) None (Some (record { table = which_of part.table; place = part.place; size = part.size }))

  name_again : (x : Option PartHere) → IsNamed part x → name_from (named_number x) ≡ x
  unfolding name_from named_number
  name_again (Some p) own = rw (← own, which_again p.table)
  name_again None own = refl

pub naming_in_settled : (q : NameInputs) → Settles (NamesIn q)
naming_in_settled q = answer_settled 0 named_number (IsNamed (name_part q)) (name_from (name_part q)) (name_again (name_part q)) (name_answer q)

pub naming_in_two_settled : (q : TwoNamesInputs) → Settles (NamesInTwo q)
naming_in_two_settled q =
    answer_settled 0 named_number (IsNamed (two_names_part q)) (name_from (two_names_part q)) (name_again (two_names_part q)) (two_names_answer q)

-- ---- the part handed back: a reference is its bytes, its block and the place there

part_settled : (s : Bor (List ℕ)) (place size : ℕ) → Settles (PartAt s place size)
part_settled s place size r t p q = λ i. record {
  ref_ptr = ((p.block ∙ sym q.block) i, (p.offset ∙ sym q.offset) i);
  now = (p.bytes ∙ sym q.bytes) i;
}

pub name_in_settled : (table : Bor (List ℕ)) (router : ℕ) → Settles (GivesName table router)
name_in_settled table router = part_settled _ _ _

pub name_in_two_settled : (old new : Bor (List ℕ)) (router : ℕ) → Settles (GivesNameOfTwo old new router)
name_in_two_settled old new router = part_settled _ _ _
