-- What a C program reads from the 64-bit number of an answer, byte by byte; and that this is the answer.
use Rattle.std.specs.Prelude.{◌≡◌, List, ℕ, ◌+◌, ◌*◌, ◌/◌, ◌%◌, ◌^◌}
use Rattle.rules.specs.Words.{◌=?◌, pick}
use Rattle.rules.specs.Names.{Part}
use Rattle.rules.specs.Answers.{Answer, answered, refused_with}
use Rattle.rules.specs.ReadQuestion.{Reading, no_reading, read_answer}
use Rattle.rules.specs.PairQuestion.{PairInputs, Pairing, no_pairing, pair_answer}
use Rattle.rules.specs.FillQuestion.{FillInputs, fill_answer}
use Rattle.rules.specs.ChosenQuestion.{ChosenInputs, ChosenHop, chosen_answer}
use Rattle.rules.specs.EntryQuestion.{EntryInputs, entry_answer}
use Rattle.rules.specs.InterfacesQuestion.{InterfacesInputs, interfaces_answer}
use Rattle.rules.specs.PathQuestion.{PathInputs, Ending, no_ending, path_answer}
use Rattle.rules.specs.NameQuestions.{NameInputs, name_answer, name_part, TwoNamesInputs, two_names_answer, two_names_part}
use Rattle.tracer.specs.Packed.{packed, alone, reading_bytes, pairing_bytes, chosen_bytes, ending_bytes, name_bytes}

-- byte n of a number
unfoldable pub byte_in : ℕ → ℕ → ℕ
byte_in word n = word / 256 ^ n % 256

-- the number in byte n and the one above it
abbrev pub two_bytes_in : ℕ → ℕ → ℕ
two_bytes_in word n = byte_in word n + byte_in word (n + 1) * 256

-- Where byte 7 is 0 the values are read, else the refusal: byte 7 is its number, byte 6 its table, and the place stands below them.
unfoldable pub taken : {A : Type 0} → A → (ℕ → A) → ℕ → Answer A
taken zeros values word =
    pick (byte_in word 7 =? 0) (answered (values word)) (refused_with zeros (byte_in word 7) (byte_in word 6) (word % 256 ^ 6))

-- ---- the values

abbrev pub reading_in : ℕ → Reading
reading_in word = record { routers = byte_in word 0; links = two_bytes_in word 1 }

abbrev pub pairing_in : ℕ → Pairing
pairing_in word = record { routers = byte_in word 0; differ = byte_in word 1 }

-- N of the fill, and the code of an entry
abbrev pub byte_alone : ℕ → ℕ
byte_alone word = byte_in word 0

-- the bytes of an interface table
abbrev pub two_bytes_alone : ℕ → ℕ
two_bytes_alone word = two_bytes_in word 0

abbrev pub chosen_in : ℕ → ChosenHop
chosen_in word = record { hop = byte_in word 0; size = byte_in word 1 }

abbrev pub ending_in : ℕ → Ending
ending_in word = record { outcome = byte_in word 2; router = byte_in word 0; hops = byte_in word 1 }

-- whether there is a name, and the part that it is
abbrev pub named_in : ℕ → ℕ
named_in word = byte_in word 3

abbrev pub part_in : ℕ → Part
part_in word = record { table = byte_in word 2; place = two_bytes_in word 4; size = byte_in word 1 }

-- ---- what is packed is read again (proofs/Taken)

-- an answer is read from its number: byte 7 is 0 exactly where the question is answered, and nothing of the answer is lost
abbrev pub TakenAgain : {A : Type 0} → A → (A → ℕ) → (ℕ → A) → Answer A → Type 0
TakenAgain zeros bytes values_in a = taken zeros values_in (packed bytes a) ≡ a

-- and so is the part that a name is
abbrev pub PartTakenAgain : Part → Answer ℕ → Type 0
PartTakenAgain part a = a.values ≡ 1 → part_in (packed (name_bytes part) a) ≡ part

pub record TakenApart : Type 0 where
  pub of_read : (table : List ℕ) → TakenAgain no_reading reading_bytes reading_in (read_answer table)
  pub of_pair : (q : PairInputs) → TakenAgain no_pairing pairing_bytes pairing_in (pair_answer q)
  pub of_fill : (q : FillInputs) → TakenAgain 0 alone byte_alone (fill_answer q)
  pub of_chosen : (q : ChosenInputs) → chosen_in (chosen_bytes (chosen_answer q)) ≡ chosen_answer q
  pub of_entry : (q : EntryInputs) → TakenAgain 0 alone byte_alone (entry_answer q)
  pub of_interfaces : (q : InterfacesInputs) → TakenAgain 0 alone two_bytes_alone (interfaces_answer q)
  pub of_path : (q : PathInputs) → TakenAgain no_ending ending_bytes ending_in (path_answer q)
  pub of_name : (q : NameInputs) → TakenAgain 0 (name_bytes (name_part q)) named_in (name_answer q)
  pub of_name_part : (q : NameInputs) → PartTakenAgain (name_part q) (name_answer q)
  pub of_two_names : (q : TwoNamesInputs) → TakenAgain 0 (name_bytes (two_names_part q)) named_in (two_names_answer q)
  pub of_two_names_part : (q : TwoNamesInputs) → PartTakenAgain (two_names_part q) (two_names_answer q)
