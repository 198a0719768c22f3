-- Any list of refusals: the first line that applies decides, a question is answered exactly where every case holds, and what is written is the answer
-- and nothing behind it. Lists that begin with tables are refused by listed numbers; plain numbers decide as the first of them does.
-- Assumes nothing.
use mathlib.Core.Path.{◌≡◌, refl, sym, ◌∙◌, ap, ap₂, subst}
use mathlib.Core.Logic.{◌≢◌, ◌↔◌}
use mathlib.Core.Bool.{Bool, true, false, ◌||◌, false≢true}
use mathlib.Core.List.Memᴰ
use mathlib.Core.List.Memᴰ.{tail as next}
use mathlib.Core.List.{List, [], ◌∷◌, ◌++◌, map, Memᴰ}
use Prim.Native.Nat.{ℕ, zero, suc, ◌+◌, ◌-◌, ◌≤◌, ◌<◌}
use native.Mathlib.Decide.{ℕ_discrete}
use native.Mathlib.Omega.{arith}
use lib.Dec.{eqb, ltb, leb}
use lib.ListN.{length, take, drop, length-append, length-drop}
use lib.Seq.{take_at, drop_at}
use borrow.Author.Tests.{ltb-true, ltb-false, leb-false, lt-ltb, le-ltb, lt-leb, eq-eqb, ne_eqb}
use Rattle.rules.specs.Words.{pick, Line, first◌otherwise◌, All}
use Rattle.rules.specs.Layout.{longest_table}
use Rattle.rules.specs.Table.{Judged, accepted, refused, read, number_of, place_of}
use Rattle.rules.specs.Demand1.{IsAccepted}
use Rattle.rules.specs.Answers.{Refusal, refusal, table_refusal, plain, tables_from, on_tables, number_in, Answer, answered, refused_with, answer, afterwards, Case, Exactly, AskFor, accepts_from, AnyList, TablesFirst, table_numbers, Listed, ListedNumbers, OutputsHold}
use Rattle.rules.proofs.Basics.{pick_t, pick_f, All-map, neither}
use Rattle.rules.proofs.Refusals.{By-1-to-7, read_by}
use Rattle.rules.proofs.Lengths.{lengths_hold}

-- ---- one line

module _ {A : Type 0} (zeros values : A) where
  -- the first line applies, or it does not
  line_applies : (l : Line Refusal) (ls : List (Line Refusal)) → l.applies ≡ true → l.gives.number ≢ 0
      → answer (l ∷ ls) zeros values ≡ record { refusal = l.gives; values = zeros }
  unfolding answer
  line_applies l ls e n = rw (e, ne_eqb l.gives.number 0 n)

  line_passes : (l : Line Refusal) (ls : List (Line Refusal)) → l.applies ≡ false → answer (l ∷ ls) zeros values ≡ answer ls zeros values
  unfolding answer
  line_passes l ls e = rw e

-- what holds of all that an applying line gives, and of what stands behind `otherwise`, holds of the first that applies
first_holds : {A : Type 0} (P : A → Type 0) (ls : List (Line A)) (a : A) → All (λ l. l.applies ≡ true → P l.gives) ls → P a
    → P (first ls otherwise a)
first_holds P [] a hs h = h
first_holds P (l ∷ ls) a hs h = go l.applies hs.0 (first_holds P ls a hs.1 h)
  where
    go : (t : Bool) → (t ≡ true → P l.gives) → P (first ls otherwise a) → P (pick t l.gives (first ls otherwise a))
    go true f g = f refl
    go false f g = g

-- ---- exactly in the listed cases

module _ {A : Type 0} (c : Case) (cs : List Case) (zeros values : A) (a : Answer A) where
  -- the first case holds, and the others decide
  holds : c.asks → Exactly cs zeros values a → Exactly (c ∷ cs) zeros values a
  holds h x = record {
    asked = (λ e. (h, x.asked.0 e), λ all. x.asked.1 all.1);
    given = x.given;
    in_order = (λ n. absurd (n h), λ h. x.in_order);
  }

  -- it does not hold, and decides
  fails : ¬ c.asks → c.refusal.number ≢ 0 → a ≡ record { refusal = c.refusal; values = zeros } → Exactly (c ∷ cs) zeros values a
  fails h n e = record {
    asked = (λ z. absurd (n (sym number ∙ z)), λ all. absurd (h all.0));
    given = λ z. absurd (n (sym number ∙ z));
    in_order = (λ n. e, λ k. absurd (h k));
  }
    where
      number : a.refusal.number ≡ c.refusal.number
      number = ap (λ (a : Answer A). a.refusal.number) e

pub any_list : AnyList
unfolding answer
any_list A [] [] zeros values k ns = record { asked = (λ e. tt, λ h. refl); given = λ e. refl; in_order = refl }
any_list A [] (c ∷ cs) zeros values k ns = absurd k
any_list A (l ∷ ls) [] zeros values k ns = absurd k
any_list A (l ∷ ls) (c ∷ cs) zeros values (g, f, k) (n, ns) = go l.applies refl (any_list A ls cs zeros values k ns)
  where
    go : (t : Bool) → l.applies ≡ t → Exactly cs zeros values (answer ls zeros values) → Exactly (c ∷ cs) zeros values (answer (l ∷ ls) zeros values)
    go true e x =
        fails c cs zeros values _ (λ h. false≢true (sym (f.1 h) ∙ e)) (λ z. n e (ap (λ (r : Refusal). r.number) g ∙ z))
        (line_applies zeros values l ls e (n e) ∙ ap (λ (r : Refusal). record { refusal = r; values = zeros }) g)
    go false e x = holds c cs zeros values _ (f.0 e) (subst (Exactly cs zeros values) (sym (line_passes zeros values l ls e)) x)

-- ---- lists that begin with tables

-- a table's line applies exactly where the table is not accepted, and then has a number
asks_table : (which : ℕ) (bytes : List ℕ) → ((table_refusal which bytes).applies ≡ false) ↔ IsAccepted bytes
unfolding table_refusal
asks_table which bytes = (λ e. omega (arith, ltb-false 0 (number_of (read bytes)) e), λ e. le-ltb 0 (number_of (read bytes)) (omega arith))

table_numbered : (which : ℕ) (bytes : List ℕ) → (table_refusal which bytes).applies ≡ true → (table_refusal which bytes).gives.number ≢ 0
unfolding table_refusal
table_numbered which bytes e = omega (arith, ltb-true 0 (number_of (read bytes)) e)

module _ (numbers : List (Line ℕ)) (cases : List Case) (k : AskFor (plain numbers) cases) (ns : All (λ l. l.gives ≢ 0) numbers) where
  tables_ask : (which : ℕ) (tables : List (List ℕ)) → AskFor (tables_from which tables numbers) (accepts_from which tables cases)
  unfolding table_refusal
  tables_ask which [] = k
  tables_ask which (table ∷ tables) = (refl, asks_table which table, tables_ask (suc which) tables)

  plain_numbered : (ls : List (Line ℕ)) → All (λ l. l.gives ≢ 0) ls → All (λ l. l.applies ≡ true → l.gives.number ≢ 0) (plain ls)
  plain_numbered [] h = tt
  plain_numbered (l ∷ ls) h = (λ e. h.0, plain_numbered ls h.1)

  tables_numbered : (which : ℕ) (tables : List (List ℕ))
      → All (λ l. l.applies ≡ true → l.gives.number ≢ 0) (tables_from which tables numbers)
  tables_numbered which [] = plain_numbered numbers ns
  tables_numbered which (table ∷ tables) = (table_numbered which table, tables_numbered (suc which) tables)

pub tables_first : TablesFirst
tables_first A tables numbers cases zeros values k ns =
    any_list _ _ _ zeros values (tables_ask numbers cases k ns 0 tables) (tables_numbered numbers cases k ns 0 tables)

-- ---- by listed numbers only

-- the m numbers from k on, and behind them more
abbrev run : ℕ → ℕ → List ℕ → List ℕ
run zero k more = more
run (suc m) k more = k ∷ run m (suc k) more

in_run : (m k n : ℕ) (more : List ℕ) → k ≤ n → n < k + m → Memᴰ n (run m k more)
in_run zero k n more l u = absurd (omega arith)
in_run (suc m) k n more l u = go (ℕ_discrete n k) (in_run m (suc k) n more)
  where
    go : Dec (n ≡ k) → (suc k ≤ n → n < suc k + m → Memᴰ n (run m (suc k) more)) → Memᴰ n (k ∷ run m (suc k) more)
    go (yes e) f = Memᴰ.head e
    go (no e) f = next (f (omega arith) (omega arith))

-- a refusal that says neither table nor place
plain_listed : {last_table : ℕ} {numbers : List ℕ} (number : ℕ) → Memᴰ number (0 ∷ table_numbers numbers) → Listed last_table numbers (refusal number)
plain_listed number m = record { by_number = m; of_a_table = omega arith; from_8 = omega arith; of_none = omega arith; near = omega arith }

module _ (last_table : ℕ) (numbers : List ℕ) where
  -- a line of a question's list gives what is asked
  abbrev Lists : Line Refusal → Type 0
  Lists l = l.applies ≡ true → Listed last_table numbers l.gives

  table_lists : (which : ℕ) (bytes : List ℕ) → which ≤ last_table → Lists (table_refusal which bytes)
  unfolding table_refusal
  table_lists which bytes w e = go (read bytes) (read_by bytes) (ltb-true 0 (number_of (read bytes)) e) (lengths_hold bytes).place_near
    where
      go : (j : Judged) → By-1-to-7 j → 0 < number_of j → place_of j ≤ longest_table
          → Listed last_table numbers (record { number = number_of j; table = which; place = place_of j })
      go (accepted rs end) h l p = absurd (omega arith)
      go (refused number place) h l p = record {
        by_number = in_run 8 0 number numbers (omega arith) (omega arith);
        of_a_table = w;
        from_8 = omega arith;
        of_none = omega arith;
        near = p;
      }

  plain_list : (ls : List (Line ℕ)) → All (λ l. Memᴰ l.gives numbers) ls → All Lists (plain ls)
  plain_list [] h = tt
  plain_list (l ∷ ls) h = (λ e. plain_listed l.gives (Memᴰ.append_right (0 ∷ table_numbers []) h.0), plain_list ls h.1)

  tables_list : (ls : List (Line ℕ)) → All (λ l. Memᴰ l.gives numbers) ls → (which : ℕ) (tables : List (List ℕ)) → which + length tables ≤ suc last_table
      → All Lists (tables_from which tables ls)
  tables_list ls h which [] w = plain_list ls h
  tables_list ls h which (table ∷ tables) w = (table_lists which table (omega arith), tables_list ls h (suc which) tables (omega arith))

-- every number of a list is one of them
all_listed : (ls : List (Line ℕ)) → All (λ l. Memᴰ l.gives (map (λ l. l.gives) ls)) ls
all_listed [] = tt
all_listed (l ∷ ls) = (Memᴰ.head refl, All-map (λ l m. next m) ls (all_listed ls))

pub listed_numbers : ListedNumbers
unfolding answer
listed_numbers A tables numbers zeros values = record {
  listed =
      first_holds (Listed last listed) (on_tables tables numbers) (refusal 0)
      (tables_list last listed numbers (all_listed numbers) 0 tables (omega arith)) (plain_listed 0 (Memᴰ.head refl));
  else_zero = λ r. pick_f _ _ _ (ne_eqb _ 0 r);
}
  where
    last : ℕ
    last = length tables - 1

    listed : List ℕ
    listed = map (λ l. l.gives) numbers

-- ---- lent outputs

module _ {A : Type 0} (a : Answer A) (written lent : List ℕ) where
  writes : a.refusal.number ≡ 0 → afterwards a written lent ≡ written ++ drop (length written) lent
  unfolding afterwards
  writes e = pick_t _ _ _ (eq-eqb a.refusal.number 0 e)

  pub stays : a.refusal.number ≢ 0 → afterwards a written lent ≡ lent
  unfolding afterwards
  stays r = pick_f _ _ _ (ne_eqb a.refusal.number 0 r)

  -- the same of an answer that is known whole: a refusal, or one that writes n places
  pub refused_stays : (zeros : A) (number table place : ℕ) → a ≡ refused_with zeros number table place → number ≢ 0 → lent ≡ afterwards a written lent
  refused_stays zeros number table place e n = sym (stays (λ z. n (sym (ap (λ (a : Answer A). a.refusal.number) e) ∙ z)))

  pub answered_writes : (values : A) (n : ℕ) → a ≡ answered values → length written ≡ n → written ++ drop n lent ≡ afterwards a written lent
  answered_writes values n e l = ap (λ k. written ++ drop k lent) (sym l) ∙ sym (writes (ap (λ (a : Answer A). a.refusal.number) e))

pub outputs_hold : OutputsHold
outputs_hold A a n written lent room = record {
  held = λ e.
      let (l, h) = room e in
      record {
        all_written = l;
        front = ap (take n) (writes a written lent e) ∙ take_at written (drop (length written) lent) n l;
        later = ap (drop n) (writes a written lent e) ∙ drop_at written (drop (length written) lent) n l ∙ ap (λ m. drop m lent) l;
        same_length =
            ap length (writes a written lent e)
            ∙ length-append written (drop (length written) lent)
            ∙ omega (arith, length-drop (length written) lent);
      };
  stays = stays a written lent;
}

-- ---- tests, and what they ask for

-- a test that is an order
pub asks-< : (m n : ℕ) → (leb m n ≡ false) ↔ (n < m)
asks-< m n = (leb-false m n, lt-leb m n)

pub asks-≤ : (m n : ℕ) → (ltb m n ≡ false) ↔ (n ≤ m)
asks-≤ m n = (ltb-false m n, le-ltb m n)

-- neither of two tests passes
pub asks_both : {P Q : Type 0} (s t : Bool) → (s ≡ false) ↔ P → (t ≡ false) ↔ Q → ((s || t) ≡ false) ↔ (P × Q)
asks_both s t f g = (λ e. let n = neither s t e in (f.0 n.0, g.0 n.1), λ h. rw (f.1 h.0) (g.1 h.1))

-- two routers, each below its N
pub asks_routers : (m n i k : ℕ) → ((leb m i || leb n k) ≡ false) ↔ ((i < m) × (k < n))
asks_routers m n i k = asks_both (leb m i) (leb n k) (asks-< m i) (asks-< n k)

-- a test that does not fail passes
pub applies : {P : Type 0} (t : Bool) → (t ≡ false) ↔ P → ¬ P → t ≡ true
applies true f h = refl
applies false f h = absurd (h (f.0 refl))

-- ---- for the functions that answer

module _ {A : Type 0} (zeros values : A) where
  -- the first table is refused, or it is accepted
  module _ (which : ℕ) (bytes : List ℕ) (ls : List (Line Refusal)) where
    pub table_bad : (number place : ℕ) → number_of (read bytes) ≡ number → place_of (read bytes) ≡ place → number ≢ 0
        → answer (table_refusal which bytes ∷ ls) zeros values ≡ refused_with zeros number which place
    unfolding table_refusal
    table_bad number place n p h =
        line_applies zeros values (table_refusal which bytes) ls (lt-ltb 0 (number_of (read bytes)) (rw n (omega arith))) (λ e. h (sym n ∙ e))
        ∙ ap₂ (λ n p. refused_with zeros n which p) n p

    pub table_good : number_of (read bytes) ≡ 0 → answer (table_refusal which bytes ∷ ls) zeros values ≡ answer ls zeros values
    table_good e = line_passes zeros values (table_refusal which bytes) ls ((asks_table which bytes).1 e)

  -- accepted tables leave the numbers
  tables_good : (which : ℕ) (tables : List (List ℕ)) (numbers : List (Line ℕ)) → All IsAccepted tables
      → answer (tables_from which tables numbers) zeros values ≡ answer (plain numbers) zeros values
  tables_good which [] numbers h = refl
  tables_good which (table ∷ tables) numbers h = table_good which table _ h.0 ∙ tables_good (suc which) tables numbers h.1

  -- the first plain line that applies gives the first number that does
  plain_first : (numbers : List (Line ℕ)) → (first plain numbers otherwise refusal 0) ≡ refusal (number_in numbers)
  plain_first [] = refl
  plain_first (l ∷ ls) = go l.applies (plain_first ls)
    where
      go : (t : Bool) → (first plain ls otherwise refusal 0) ≡ refusal (number_in ls)
          → pick t (refusal l.gives) (first plain ls otherwise refusal 0) ≡ refusal (pick t l.gives (number_in ls))
      go true ih = refl
      go false ih = ih

  -- Where the tables are accepted, the first number whose test applies decides: it refuses, or is 0, and the values are given.
  module _ (tables : List (List ℕ)) (numbers : List (Line ℕ)) (h : All IsAccepted tables) (number : ℕ) (e : number ≡ number_in numbers) where
    by_number : answer (on_tables tables numbers) zeros values ≡ record { refusal = refusal number; values = pick (eqb number 0) values zeros }
    unfolding answer
    by_number =
        tables_good 0 tables numbers h
        ∙ ap (λ (r : Refusal). record { refusal = r; values = pick (eqb r.number 0) values zeros }) (plain_first numbers ∙ ap refusal (sym e))

    pub number_refuses : number ≢ 0 → answer (on_tables tables numbers) zeros values ≡ refused_with zeros number 0 0
    number_refuses n = by_number ∙ ap (λ v. record { refusal = refusal number; values = v }) (pick_f _ _ _ (ne_eqb number 0 n))

    pub number_answers : number ≡ 0 → answer (on_tables tables numbers) zeros values ≡ answered values
    number_answers z = by_number ∙ ap (λ n. record { refusal = refusal n; values = pick (eqb n 0) values zeros }) z

-- where the first lines refuse, so does the whole list
first_in_front : (ls ms : List (Line Refusal)) → (first ls otherwise refusal 0).number ≢ 0
    → (first ls ++ ms otherwise refusal 0) ≡ (first ls otherwise refusal 0)
first_in_front [] ms n = absurd (n refl)
first_in_front (l ∷ ls) ms n = go l.applies (first_in_front ls ms) n
  where
    go : (t : Bool)
        → ((first ls otherwise refusal 0).number ≢ 0 → (first ls ++ ms otherwise refusal 0) ≡ (first ls otherwise refusal 0))
        → (pick t l.gives (first ls otherwise refusal 0)).number ≢ 0
        → pick t l.gives (first ls ++ ms otherwise refusal 0) ≡ pick t l.gives (first ls otherwise refusal 0)
    go true ih n = refl
    go false ih n = ih n

pub front_refuses : {A B : Type 0} (zeros values : A) (zeros' values' : B) (ls ms : List (Line Refusal))
    → (answer ls zeros values).refusal.number ≢ 0
    → answer (ls ++ ms) zeros' values' ≡ record { refusal = (answer ls zeros values).refusal; values = zeros' }
unfolding answer
front_refuses zeros values zeros' values' ls ms n = rw (first_in_front ls ms n, ne_eqb (first ls otherwise refusal 0).number 0 n)
