-- A router's interface table by its next-hop sets, and what the question about it answers, in document 01's numbers.
use Rattle.std.specs.Prelude.{◌≡◌, ℕ, get_or, Result}
use mathlib.Core.List.{List, [], ◌∷◌, map, flatten}
use Rattle.std.specs.Int.Bits.{bit_or}
use Rattle.std.specs.List.{fold}
use Rattle.rules.specs.Words.{◌=?◌, pick, ◌when◌, first◌otherwise◌, below}
use Rattle.rules.specs.NextHops.{has}
use Rattle.rules.specs.Entries.{starts_here, entry_by, code, discard}
use Rattle.rules.specs.Answers.{Answer}
use Rattle.rules.specs.InterfacesQuestion.{InterfacesInputs, interfaces_answer, interfaces_after}
use Rattle.entries.specs.Entries.{pipo}
use Rattle.refusals.specs.Refusals.{answer_told}
use Rattle.refusals.specs.declared.Refusal.{Refusal}

-- ---- the question

-- the numbers of each case
abbrev pub writing_numbers : Result ℕ Refusal → Answer ℕ
writing_numbers = answer_told 0 (λ bytes. bytes)

-- r answers the question about a router's interface table, and the output holds afterwards what it is to hold
abbrev pub Writes : InterfacesInputs → Result ℕ Refusal → List ℕ → Type 0
Writes q r out = (writing_numbers r ≡ interfaces_answer q) × (out ≡ interfaces_after q)

-- ---- rows by the router's next-hop sets for each destination

-- the code of router i's entry for previous hop j and destination d, by its set for d
unfoldable pub code_by : List ℕ → ℕ → ℕ → ℕ → ℕ
code_by sets i j d = code (entry_by (pipo (get_or sets d 0)) i j d)

-- the codes of row 255, for each of 64 destinations
unfoldable pub start_codes : List ℕ → ℕ → List ℕ
start_codes sets i = map (code_by sets i starts_here) (below 64)

-- the routers that are in any of the sets
abbrev pub members_of : List ℕ → ℕ
members_of sets = fold bit_or 0 sets

-- the code for a previous hop: discard where it is a member, else that of row 255
unfoldable pub code_from : List ℕ → List ℕ → ℕ → ℕ → ℕ
code_from sets codes j d = pick (has (get_or sets d 0) j) (code discard) (get_or codes d 0)

-- the cell of previous hop j: in row 255 its code, in router i's own row 131
unfoldable pub cell_from : List ℕ → List ℕ → ℕ → ℕ → ℕ → ℕ
cell_from sets codes i j d = first get_or codes d 0 when (j =? starts_here) ∷ 131 when (i =? j) ∷ [] otherwise code_from sets codes j d

-- rows of n cells: row 255 first, then previous hops 0 to m − 1
unfoldable pub rows : (ℕ → ℕ → ℕ) → ℕ → ℕ → List ℕ
rows f n m = flatten (map (λ j. map (f j) (below n)) (starts_here ∷ below m))
