-- Refusals and answers: what every question's answer is made of, and what is proved of any list of refusals. A question is refused in the cases of
-- its list and in no others.
use Rattle.std.specs.Prelude.{◌≡◌, ◌≢◌, ◌↔◌, Bool, true, false, ℕ, suc, ◌-◌, ◌≤◌, length, take, drop}
use mathlib.Core.List.{List, [], ◌∷◌, ◌++◌, map, Memᴰ}
use Rattle.rules.specs.Words.{◌=?◌, ◌<?◌, ◌≤?◌, pick, Line, ◌when◌, first◌otherwise◌, All}
use Rattle.rules.specs.Layout.{longest_table}
use Rattle.rules.specs.Table.{read, number_of, place_of}
use Rattle.rules.specs.Demand1.{IsAccepted}

-- ---- refusals

-- A refusal answers its number (0: none), which table (0 for the old or only one, 1 for the new) and the place.
pub record Refusal : Type 0 where
  pub number : ℕ
  pub table : ℕ
  pub place : ℕ

-- a number without table and place: from 8 upwards, and 0 for none
abbrev pub refusal : ℕ → Refusal
refusal number = record { number = number; table = 0; place = 0 }

-- the refusal of one of the tables: its own number and place
abbrev pub of_table : ℕ → List ℕ → Refusal
of_table which bytes = record { number = number_of (read bytes); table = which; place = place_of (read bytes) }

-- 1 to 7: the table's bytes are refused
unfoldable pub table_refusal : ℕ → List ℕ → Line Refusal
table_refusal which bytes = of_table which bytes when (0 <? number_of (read bytes))

-- numbers with their tests, as lines of refusals
abbrev pub plain : List (Line ℕ) → List (Line Refusal)
plain [] = []
plain (l ∷ ls) = (refusal l.gives when l.applies) ∷ plain ls

-- the lent tables in order, counted from `which` on, and behind them such numbers
abbrev pub tables_from : ℕ → List (List ℕ) → List (Line ℕ) → List (Line Refusal)
tables_from which [] numbers = plain numbers
tables_from which (table ∷ tables) numbers = table_refusal which table ∷ tables_from (suc which) tables numbers

abbrev pub on_tables : List (List ℕ) → List (Line ℕ) → List (Line Refusal)
on_tables tables numbers = tables_from 0 tables numbers

-- the first of such numbers whose test applies; 0 for none
abbrev pub number_in : List (Line ℕ) → ℕ
number_in numbers = first numbers otherwise 0

-- 9: a router number not below N
abbrev pub bad_router : ℕ → ℕ → Bool
bad_router n i = n ≤? i

-- ---- answers

-- an answer: its refusal, and all its other numbers
pub record Answer (A : Type 0) : Type 0 where
  pub refusal : Refusal
  pub values : A

-- an answer that is no refusal; and a refusal, all whose other numbers are 0
abbrev pub answered : {A : Type 0} → A → Answer A
answered values = record { refusal = refusal 0; values = values }

abbrev pub refused_with : {A : Type 0} → A → ℕ → ℕ → ℕ → Answer A
refused_with zeros number table place = record { refusal = record { number = number; table = table; place = place }; values = zeros }

-- the number of a refusal is not 0, which stands for none
abbrev pub IsNumber : ℕ → Type 0
IsNumber number = number ≢ 0

-- The first refusal that applies decides, and all other numbers are then 0; where none applies the values are given.
unfoldable pub answer : {A : Type 0} → List (Line Refusal) → A → A → Answer A
answer refusals zeros values =
    let r = (first refusals otherwise refusal 0) in
    record { refusal = r; values = pick (r.number =? 0) values zeros }

-- What a lent output holds after an answer: what is written, and behind it what was there; after a refusal all that was there.
unfoldable pub afterwards : {A : Type 0} → Answer A → List ℕ → List ℕ → List ℕ
afterwards a written lent = pick (a.refusal.number =? 0) (written ++ drop (length written) lent) lent

-- a question is answered, or it is refused
abbrev pub Answered : {A : Type 0} → Answer A → Type 0
Answered a = a.refusal.number ≡ 0

abbrev pub Refused : {A : Type 0} → Answer A → Type 0
Refused a = a.refusal.number ≢ 0

-- ---- exactly in the listed cases

-- a case of a question's list: what is asked for, and the refusal where that does not hold
pub record Case : Type 1 where
  pub refusal : Refusal
  pub asks : Type 0

infix 68 ◌unless◌
abbrev pub ◌unless◌ : ℕ → Type 0 → Case
number unless asks = record { refusal = refusal number; asks = asks }

-- a table is accepted; unless it is, its own number and place refuse
abbrev pub accepts : ℕ → List ℕ → Case
accepts which bytes = record {
  refusal = record { number = number_of (read bytes); table = which; place = place_of (read bytes) };
  asks = IsAccepted bytes;
}

-- every case holds
abbrev pub AllHold : List Case → Type 0
AllHold [] = Unit {0}
AllHold (c ∷ cs) = c.asks × AllHold cs

-- The first case that does not hold decides, and all other numbers are then 0; where every case holds the values are given.
abbrev pub FirstDecides : {A : Type 0} → List Case → A → A → Answer A → Type 0
FirstDecides [] zeros values a = a ≡ answered values
FirstDecides (c ∷ cs) zeros values a =
    (¬ c.asks → a ≡ record { refusal = c.refusal; values = zeros }) × (c.asks → FirstDecides cs zeros values a)

-- answered exactly where every case holds, and then by these values; else the first case that does not hold decides
pub record Exactly {A : Type 0} (cases : List Case) (zeros values : A) (a : Answer A) : Type 0 where
  pub asked : Answered a ↔ AllHold cases
  pub given : Answered a → a.values ≡ values
  pub in_order : FirstDecides cases zeros values a

-- what a line tests is what a case asks for, and what it gives is that case's refusal
abbrev pub AskFor : List (Line Refusal) → List Case → Type 0
AskFor [] [] = Unit {0}
AskFor [] (c ∷ cs) = ⊥
AskFor (l ∷ ls) [] = ⊥
AskFor (l ∷ ls) (c ∷ cs) = (l.gives ≡ c.refusal) × ((l.applies ≡ false) ↔ c.asks) × AskFor ls cs

-- of any list of refusals: the first that applies decides (proofs/Answers)
abbrev pub AnyList : Type 1
AnyList =
    (A : Type 0) (refusals : List (Line Refusal)) (cases : List Case) (zeros values : A)
    → AskFor refusals cases
    → All (λ l. l.applies ≡ true → l.gives.number ≢ 0) refusals
    → Exactly cases zeros values (answer refusals zeros values)

-- the lent tables are accepted, counted from `which` on, and behind them other cases hold
abbrev pub accepts_from : ℕ → List (List ℕ) → List Case → List Case
accepts_from which [] cases = cases
accepts_from which (table ∷ tables) cases = accepts which table ∷ accepts_from (suc which) tables cases

-- of lists that begin with tables: these come first (proofs/Answers)
abbrev pub TablesFirst : Type 1
TablesFirst =
    (A : Type 0) (tables : List (List ℕ)) (numbers : List (Line ℕ)) (cases : List Case) (zeros values : A)
    → AskFor (plain numbers) cases
    → All (λ l. l.gives ≢ 0) numbers
    → Exactly (accepts_from 0 tables cases) zeros values (answer (on_tables tables numbers) zeros values)

-- ---- by listed numbers only

-- the numbers that refuse a table, and behind them those that a question's list names
abbrev pub table_numbers : List ℕ → List ℕ
table_numbers more = 1 ∷ 2 ∷ 3 ∷ 4 ∷ 5 ∷ 6 ∷ 7 ∷ more

-- The number is 0 or one of these, and the table one of those lent; from 8 upwards, and where nothing is refused, table and place are 0; a table's
-- place is at most the longest table.
pub record Listed (last_table : ℕ) (numbers : List ℕ) (r : Refusal) : Type 0 where
  pub by_number : Memᴰ r.number (0 ∷ table_numbers numbers)
  pub of_a_table : r.table ≤ last_table
  pub from_8 : 8 ≤ r.number → (r.table ≡ 0) × (r.place ≡ 0)
  pub of_none : r.number ≡ 0 → (r.table ≡ 0) × (r.place ≡ 0)
  pub near : r.place ≤ longest_table

-- an answer's refusal is listed, and all other numbers of a refusal are 0
pub record RefusedBy {A : Type 0} (last_table : ℕ) (numbers : List ℕ) (zeros : A) (a : Answer A) : Type 0 where
  pub listed : Listed last_table numbers a.refusal
  pub else_zero : Refused a → a.values ≡ zeros

-- of lists that begin with tables (proofs/Answers)
abbrev pub ListedNumbers : Type 1
ListedNumbers =
    (A : Type 0) (tables : List (List ℕ)) (numbers : List (Line ℕ)) (zeros values : A)
    → RefusedBy (length tables - 1) (map (λ l. l.gives) numbers) zeros (answer (on_tables tables numbers) zeros values)

-- ---- lent outputs

-- n places are written, and those behind them stay as they were
pub record Holds (n : ℕ) (written lent after : List ℕ) : Type 0 where
  pub all_written : length written ≡ n
  pub front : take n after ≡ written
  pub later : drop n after ≡ drop n lent
  pub same_length : length after ≡ length lent

-- a question that is answered writes all of it, and nothing behind it; one that is refused writes nothing
pub record Output {A : Type 0} (a : Answer A) (n : ℕ) (written lent after : List ℕ) : Type 0 where
  pub held : Answered a → Holds n written lent after
  pub stays : Refused a → after ≡ lent

-- of any output that has room (proofs/Answers)
abbrev pub OutputsHold : Type 1
OutputsHold =
    (A : Type 0) (a : Answer A) (n : ℕ) (written lent : List ℕ)
    → (Answered a → (length written ≡ n) × (n ≤ length lent)) → Output a n written lent (afterwards a written lent)
