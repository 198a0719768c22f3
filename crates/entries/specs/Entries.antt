-- An entry by the next-hop set alone, its code, and what the entry question answers, in document 01's numbers.
use Rattle.std.specs.Prelude.{◌≡◌, ℕ, Result, IfOk}
use Rattle.rules.specs.Words.{◌<?◌}
use Rattle.rules.specs.NextHops.{has, chosen}
use Rattle.rules.specs.Entries.{Entry, deliver, discard, no_route, forward, Rules, entry_by, code}
use Rattle.rules.specs.Answers.{Answer}
use Rattle.rules.specs.EntryQuestion.{EntryInputs, entry_asked, entry_answer}
use Rattle.entries.specs.declared.Entry.{Entry as EntryHere}
use Rattle.entries.specs.declared.Entry.TheVariants.{Deliver, Discard, NoRoute, Forward}
use Rattle.refusals.specs.Refusals.{answer_told}
use Rattle.refusals.specs.declared.Refusal.{Refusal}

-- ---- one entry

-- the entry that each case tells
unfoldable pub entry_told : EntryHere → Entry
entry_told Deliver = deliver
entry_told Discard = discard
entry_told NoRoute = no_route
entry_told (Forward k) = forward k

-- the rules by a next-hop set alone, with no route where it is empty, and by the previous hops whose packets are discarded
unfoldable pub rules_by : ℕ → ℕ → Rules
rules_by set discarded = record { has_route = λ i. 0 <? set; discards = λ i j. has discarded j; hop = λ i j. chosen set }

-- document 01's, by rule PIPO: packets from any member of the set are discarded
abbrev pub pipo : ℕ → Rules
pipo set = rules_by set set

-- r is the entry of router i for previous hop j and destination d, by its next-hop set for d and the previous hops whose packets are discarded
abbrev pub Decides : ℕ → ℕ → ℕ → ℕ → ℕ → EntryHere → Type 0
Decides set discarded i j d r = entry_told r ≡ entry_by (rules_by set discarded) i j d

-- r is the code of an entry
abbrev pub Codes : EntryHere → ℕ → Type 0
Codes e r = r ≡ code (entry_told e)

-- ---- the entry question

-- the numbers of each case
abbrev pub entry_numbers : Result EntryHere Refusal → Answer ℕ
entry_numbers = answer_told 0 (λ e. code (entry_told e))

-- the entry is the one asked for
abbrev pub Own : EntryInputs → Result EntryHere Refusal → Type 0
Own q r = IfOk r (λ e. entry_told e ≡ entry_asked q)

-- r answers the entry question
abbrev pub Enters : EntryInputs → Result EntryHere Refusal → Type 0
Enters q r = (entry_numbers r ≡ entry_answer q) × Own q r
