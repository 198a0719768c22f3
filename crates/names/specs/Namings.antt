-- What the companion of the name questions answers, in document 01's numbers.
use Rattle.std.specs.Prelude.{◌≡◌, ℕ, length, Option, Some, None, Result, IfOk}
use Rattle.std.proofs.Math.Option.{Option as Found, none, some}
use Rattle.rules.specs.Layout.{Name}
use Rattle.rules.specs.Names.{Part}
use Rattle.rules.specs.Answers.{Answer}
use Rattle.rules.specs.NameQuestions.{NameInputs, name_answer, name_part, TwoNamesInputs, two_names_answer, two_names_part}
use Rattle.refusals.specs.Refusals.{table_number, answer_told}
use Rattle.refusals.specs.declared.Refusal.{Refusal}
use Rattle.refusals.specs.declared.Which.{Which}
use Rattle.refusals.specs.declared.Which.TheVariants.{Old, New}
use Rattle.names.specs.declared.Part.{Part as PartHere}

-- 1 for a name, 0 for none
unfoldable pub named_number : Option PartHere → ℕ
named_number (Some part) = 1
named_number None = 0

-- the numbers of each case
abbrev pub naming_numbers : Result (Option PartHere) Refusal → Answer ℕ
naming_numbers = answer_told 0 named_number

-- which table, the place and the length
abbrev pub part_told : PartHere → Part
part_told p = record { table = table_number p.table; place = p.place; size = p.size }

-- a name is this part
abbrev pub IsNamed : Part → Option PartHere → Type 0
IsNamed part (Some p) = part_told p ≡ part
IsNamed part None = Unit {0}

abbrev pub NamesPart : Part → Result (Option PartHere) Refusal → Type 0
NamesPart part r = IfOk r (IsNamed part)

-- r answers the companion question for one table, and for two
abbrev pub NamesIn : NameInputs → Result (Option PartHere) Refusal → Type 0
NamesIn q r = (naming_numbers r ≡ name_answer q) × NamesPart (name_part q) r

abbrev pub NamesInTwo : TwoNamesInputs → Result (Option PartHere) Refusal → Type 0
NamesInTwo q r = (naming_numbers r ≡ two_names_answer q) × NamesPart (two_names_part q) r

-- the part that the name in one table is, if there is one
unfoldable pub part_of : Which → Found Name → Option PartHere
part_of which (some m) = Some (record { table = which; place = m.place; size = length m.bytes })
part_of which none = None

-- the name in the new table, or else the one in the old
unfoldable pub part_of_two : Found Name → Found Name → Option PartHere
part_of_two in_old (some m) = part_of New (some m)
part_of_two in_old none = part_of Old in_old
