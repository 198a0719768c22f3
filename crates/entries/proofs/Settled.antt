-- Every promise of this crate allows one answer: each case is had again from the entry that it tells, or from its numbers.
-- Assumes nothing.
use mathlib.Core.Path.{◌≡◌, refl, sym, ◌∙◌, ap}
use Prim.Native.Nat.{ℕ}
use Rattle.rules.specs.Entries.{Entry, deliver, discard, no_route, forward, code}
use Rattle.rules.specs.EntryQuestion.{EntryInputs, entry_asked, entry_answer}
use Rattle.rules.specs.Promises.{Settles}
use Rattle.rules.proofs.Uniqueness.{value_settled, equations_settle}
use Rattle.refusals.proofs.Settled.{answer_settled}
use Rattle.entries.specs.declared.Entry.{Entry as EntryHere}
use Rattle.entries.specs.declared.Entry.TheVariants.{Deliver, Discard, NoRoute, Forward}
use Rattle.entries.specs.Entries.{entry_told, Decides, Codes, Enters}

-- ---- one entry

entry_from : Entry → EntryHere
entry_from deliver = Deliver
entry_from discard = Discard
entry_from no_route = NoRoute
entry_from (forward k) = Forward k

entry_again : (x : EntryHere) → entry_from (entry_told x) ≡ x
unfolding entry_from entry_told
entry_again Deliver = refl
entry_again Discard = refl
entry_again NoRoute = refl
entry_again (Forward k) = refl

pub decide_settled : (set discarded i j d : ℕ) → Settles (Decides set discarded i j d)
decide_settled set discarded i j d = equations_settle _ _ entry_told entry_from entry_again _

pub code_settled : (e : EntryHere) → Settles (Codes e)
code_settled e = value_settled _

-- ---- the entry question; an entry that is given is the one asked for

pub entry_of_settled : (q : EntryInputs) → Settles (Enters q)
entry_of_settled q =
    answer_settled 0 (λ e. code (entry_told e)) (λ e. entry_told e ≡ entry_asked q) (λ n. entry_from (entry_asked q))
    (λ x own. ap entry_from (sym own) ∙ entry_again x) (entry_answer q)
