-- Every promise of this crate allows one answer.
-- Assumes nothing.
use mathlib.Core.Path.{◌≡◌, refl, sym, ◌∙◌, ap}
use mathlib.Core.List.{List, cons≢nil, head-eq_of_cons-eq, tail-eq_of_cons-eq}
use Prim.Native.Nat.{ℕ}
use Rattle.std.specs.Prelude.{Option, Some, None}
use Rattle.std.specs.Iterator.{YieldsFirst}
use Rattle.rules.specs.Promises.{Settles}
use Rattle.rules.proofs.Uniqueness.{value_settled}
use Rattle.sets.specs.Sets.{NoSets, HasMember, Chooses, Counts, GivesMembers}

pub no_sets_settled : Settles NoSets
no_sets_settled = value_settled _

pub has_settled : (set k : ℕ) → Settles (HasMember set k)
has_settled set k = value_settled _

pub chosen_settled : (set : ℕ) → Settles (Chooses set)
chosen_settled set = value_settled _

pub size_settled : (set : ℕ) → Settles (Counts set)
size_settled set = value_settled _

pub members_settled : (set : ℕ) → Settles (GivesMembers set)
members_settled set = value_settled _

-- what `next` answers and what it leaves, by what was left
pub next_settled : (left : List ℕ) (r s : Option ℕ) (t u : List ℕ) → YieldsFirst (λ l. l) left r t → YieldsFirst (λ l. l) left s u → (r ≡ s) × (t ≡ u)
next_settled left (Some k) (Some j) t u p q =
    let e = sym p ∙ q in
    (ap Some (head-eq_of_cons-eq e), tail-eq_of_cons-eq e)
next_settled left (Some k) None t u p q = absurd (cons≢nil (sym p ∙ q.0))
next_settled left None (Some j) t u p q = absurd (cons≢nil (sym q ∙ p.0))
next_settled left None None t u p q = (refl, p.1 ∙ sym q.1)
