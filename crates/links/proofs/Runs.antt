-- A whole run of a link reader: its answers are the table's links in order, and then "no more" for ever.
-- Assumes nothing.
use mathlib.Core.Path.{◌≡◌, refl, sym, ◌∙◌, ap, ap₂, subst, subst₂}
use mathlib.Core.Logic.{◌≢◌}
use mathlib.Core.List.{List, [], ◌∷◌, ◌++◌, map, map-append}
use Prim.Native.Nat.{ℕ, suc, ◌-◌, ◌+◌}
use native.Mathlib.Omega.{arith}
use lib.ListN.{length, drop, length-append}
use lib.Seq.{drop-drop}
use denote.Ref.{Bor}
use Rattle.std.specs.Prelude.{Option, Some, None}
use Rattle.std.specs.Iterator.{Count, at_most, MakesProgress}
use Rattle.rules.specs.Words.{All, below}
use Rattle.rules.specs.Table.{read, number_of, says}
use Rattle.rules.specs.LinkQuestion.{NextLink, no_more, link_in, link_answer}
use Rattle.rules.proofs.Basics.{All-append, values_more}
use Rattle.links.specs.Links.{next_numbers, link_at, behind}
use Rattle.links.specs.Runs.{Moved, Run, made, asked, RunsGiveLinks}
use Rattle.links.specs.declared.LinkReader.{LinkReader}
use Rattle.links.specs.declared.Link.{Link}
use Rattle.links.proofs.Place.{told_within}
use Rattle.links.proofs.Stand.{Stand, in_later, none_of_refused, none_in, reader_stands, stand_behind, stand_first}

-- after k answers the reader holds its table still, and the table's links from link k on stand before it
record Stands (table : Bor (List ℕ)) (k : ℕ) (reader : LinkReader) : Type 0 where
  same : reader.table ≡ table
  ahead : Stand table.now reader.place (drop k (says table.now).links)

stands : {table : Bor (List ℕ)} {answers : List (Option Link)} {reader : LinkReader} → Run table answers reader → Stands table (length answers) reader
stands {table} (made m) = record {
  same = m.0;
  ahead = subst (λ n. Stand table.now n (says table.now).links) (sym m.1) (reader_stands table.now);
}
stands {table} (asked {answers = answers} {reader = reader} next r m) =
    let s = stands r in
    let further : behind table.now reader.place ≡ _ = sym (m.2 ∙ ap (λ (t : Bor (List ℕ)). behind t.now reader.place) s.same) in
    let fewer : drop 1 (drop (length answers) (says table.now).links) ≡ drop (length (answers ++ (next ∷ []))) (says table.now).links =
    drop-drop 1 (length answers) (says table.now).links ∙ ap (λ n. drop n (says table.now).links) (sym (length-append answers (next ∷ [])))
    in
    record { same = m.1 ∙ s.same; ahead = subst₂ (Stand table.now) further fewer (stand_behind s.ahead) }

-- so its next answer is link k
module _ {table : Bor (List ℕ)} {answers : List (Option Link)} {reader after : LinkReader} (next : Option Link) (r : Run table answers reader)
    (m : Moved reader next after) where
  answer_is : next_numbers next ≡ link_answer table.now (length answers)
  unfolding link_answer
  answer_is =
      let s = stands r in
      m.0.0
      ∙ ap (λ (t : Bor (List ℕ)). link_at t.now reader.place) s.same
      ∙ stand_first s.ahead
      ∙ in_later (length answers) (says table.now).links

in_order : {table : Bor (List ℕ)} {answers : List (Option Link)} {reader : LinkReader} → Run table answers reader
    → map next_numbers answers ≡ map (link_answer table.now) (below (length answers))
unfolding below
in_order (made m) = refl
in_order {table} (asked {answers = answers} next r m) =
    let more : length (answers ++ (next ∷ [])) ≡ suc (length answers) = length-append answers (next ∷ []) ∙ omega arith in
    map-append next_numbers answers (next ∷ [])
    ∙ ap₂ (λ (ns : List NextLink) (n : NextLink). ns ++ (n ∷ [])) (in_order r) (answer_is next r m)
    ∙ sym (values_more (link_answer table.now) (length answers))
    ∙ ap (λ n. map (link_answer table.now) (below n)) (sym more)

-- a refused table has no links
is_none : (next : Option Link) → next_numbers next ≡ no_more → next ≡ None
unfolding next_numbers
is_none (Some l) e = absurd (omega (arith, ap (λ n. n.more) e))
is_none None e = refl

of_refused : {table : Bor (List ℕ)} {answers : List (Option Link)} {reader : LinkReader} → Run table answers reader → number_of (read table.now) ≢ 0
    → All (λ next. next ≡ None) answers
unfolding link_answer
of_refused (made m) e = tt
of_refused {table} (asked {answers = answers} next r m) e =
    let none : link_answer table.now (length answers) ≡ no_more =
    ap (λ ls. link_in ls (length answers)) (none_of_refused table.now e) ∙ none_in [] (length answers) (omega arith)
    in
    All-append (λ next. next ≡ None) answers (next ∷ []) (of_refused r e) (is_none next (answer_is next r m ∙ none), tt)

pub runs_give_links : RunsGiveLinks
runs_give_links = record { in_order = in_order; of_refused = of_refused }

-- the bytes from a reader's place on
abbrev left : LinkReader → Count
left s = at_most (length s.table.now - s.place)

-- a link that the reader tells leaves fewer
pub goes : (s : LinkReader) (next : Option Link) (t : LinkReader) → Moved s next t → MakesProgress (λ s. Unit {0}) left s next t
goes s (Some l) t m =
    let w = told_within s.table.now s.place l m.0 in
    record { on = λ h. (tt, h, omega (arith, w, m.2, ap (λ (b : Bor (List ℕ)). length b.now) m.1)); keeps = tt; rests = λ h. tt }
goes s None t m = record { on = λ h. tt; keeps = tt; rests = λ h. h }
