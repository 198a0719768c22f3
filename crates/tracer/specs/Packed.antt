-- Answers as one 64-bit number of eight bytes, byte 7 the highest.
use Rattle.std.specs.Prelude.{◌≡◌, List, ℕ, ◌+◌, ◌*◌, ◌^◌, ◌<◌, Option, Some, None}
use Rattle.rules.specs.Words.{◌=?◌, pick}
use Rattle.rules.specs.Names.{Part}
use Rattle.rules.specs.Answers.{Answer}
use Rattle.rules.specs.ReadQuestion.{Reading, read_answer}
use Rattle.rules.specs.PairQuestion.{PairInputs, Pairing, pair_answer}
use Rattle.rules.specs.FillQuestion.{FillInputs, fill_answer, costs_after, sets_after}
use Rattle.rules.specs.ChosenQuestion.{ChosenInputs, ChosenHop, chosen_answer}
use Rattle.rules.specs.EntryQuestion.{EntryInputs, entry_answer}
use Rattle.rules.specs.InterfacesQuestion.{InterfacesInputs, interfaces_answer, interfaces_after}
use Rattle.rules.specs.PathQuestion.{PathInputs, Ending, path_answer, trace_after}
use Rattle.rules.specs.NameQuestions.{NameInputs, name_answer, name_part, TwoNamesInputs, two_names_answer, two_names_part}
use Rattle.refusals.specs.Refusals.{table_number}
use Rattle.names.specs.declared.Part.{Part as PartHere}

-- a refusal: the number in byte 7, the table in byte 6, the place below them
unfoldable pub refusal_bytes : ℕ → ℕ → ℕ → ℕ
refusal_bytes number table place = number * 256 ^ 7 + table * 256 ^ 6 + place

-- an answer: its refusal, and its values, which are 0 where there is one
unfoldable pub packed : {A : Type 0} → (A → ℕ) → Answer A → ℕ
packed values a = refusal_bytes a.refusal.number a.refusal.table a.refusal.place + values a.values

-- ---- the values

-- one number, from byte 0 on
abbrev pub alone : ℕ → ℕ
alone x = x

-- byte 0: N; bytes 2, 1: the number of links
unfoldable pub reading_bytes : Reading → ℕ
reading_bytes r = r.routers + r.links * 256

-- byte 0: N; byte 1: how many links differ
unfoldable pub pairing_bytes : Pairing → ℕ
pairing_bytes p = p.routers + p.differ * 256

-- byte 0: the chosen hop; byte 1: the size
unfoldable pub chosen_bytes : ChosenHop → ℕ
chosen_bytes c = c.hop + c.size * 256

-- byte 0: the router where the packet ended; byte 1: the hops; byte 2: the outcome
unfoldable pub ending_bytes : Ending → ℕ
ending_bytes e = e.router + e.hops * 256 + e.outcome * 256 ^ 2

-- byte 3: 1, for a name; byte 2: the table; byte 1: the length; bytes 5, 4: the place of the name's first byte
unfoldable pub named_bytes : ℕ → ℕ → ℕ → ℕ
named_bytes table place size = place * 256 ^ 4 + 256 ^ 3 + table * 256 ^ 2 + size * 256

-- 1 for a name, which is this part; unnamed is 0
unfoldable pub name_bytes : Part → ℕ → ℕ
name_bytes part named = pick (named =? 0) 0 (named_bytes part.table part.place part.size)

-- ---- what each function promises: the answer of its question, packed, and what its outputs hold afterwards

abbrev pub PacksRead : List ℕ → ℕ → Type 0
PacksRead table r = r ≡ packed reading_bytes (read_answer table)

abbrev pub PacksPair : PairInputs → ℕ → Type 0
PacksPair q r = r ≡ packed pairing_bytes (pair_answer q)

abbrev pub PacksFill : FillInputs → ℕ → List ℕ → List ℕ → Type 0
PacksFill q r costs sets = (r ≡ packed alone (fill_answer q)) × (costs ≡ costs_after q) × (sets ≡ sets_after q)

abbrev pub PacksChosen : ChosenInputs → ℕ → Type 0
PacksChosen q r = r ≡ chosen_bytes (chosen_answer q)

abbrev pub PacksEntry : EntryInputs → ℕ → Type 0
PacksEntry q r = r ≡ packed alone (entry_answer q)

abbrev pub PacksInterfaces : InterfacesInputs → ℕ → List ℕ → Type 0
PacksInterfaces q r out = (r ≡ packed alone (interfaces_answer q)) × (out ≡ interfaces_after q)

abbrev pub PacksPath : PathInputs → ℕ → List ℕ → Type 0
PacksPath q r trace = (r ≡ packed ending_bytes (path_answer q)) × (trace ≡ trace_after q)

abbrev pub PacksName : NameInputs → ℕ → Type 0
PacksName q r = r ≡ packed (name_bytes (name_part q)) (name_answer q)

abbrev pub PacksTwoNames : TwoNamesInputs → ℕ → Type 0
PacksTwoNames q r = r ≡ packed (name_bytes (two_names_part q)) (two_names_answer q)

-- ---- a name or none

unfoldable pub named_word : Option PartHere → ℕ
named_word (Some p) = named_bytes (table_number p.table) p.place p.size
named_word None = 0

-- its place and its length fit in their bytes
abbrev pub NamedFits : Option PartHere → Type 0
NamedFits (Some p) = (p.place < 256 ^ 2) × (p.size < 256)
NamedFits None = Unit {0}
