-- The link reader: what making one and asking one promise, and a whole run of a reader that `read_links` made.
use Rattle.std.specs.Prelude.{◌≡◌, ◌≢◌, List, [], ◌∷◌, ◌++◌, map, ℕ, length, Option, None}
use Rattle.std.specs.Borrow.{Bor}
use Rattle.rules.specs.Words.{All, below}
use Rattle.rules.specs.Table.{read, number_of}
use Rattle.rules.specs.LinkQuestion.{link_answer}
use Rattle.links.specs.Links.{Tells, behind, next_numbers, reader_start}
use Rattle.links.specs.declared.LinkReader.{LinkReader}
use Rattle.links.specs.declared.Link.{Link}

-- a reader of the table, at its start
abbrev pub Made : Bor (List ℕ) → LinkReader → Type 0
Made table reader = (reader.table ≡ table) × (reader.place ≡ reader_start table.now)

-- an answer of the reader, and the reader afterwards: the same table, and the place behind what was told
abbrev pub Moved : LinkReader → Option Link → LinkReader → Type 0
Moved reader next after =
    Tells reader.table.now reader.place next
    × (after.table ≡ reader.table)
    × (after.place ≡ behind reader.table.now reader.place)

-- a reader is made from the table and asked any number of times: its answers in order, and the reader as it is then
pub data Run (table : Bor (List ℕ)) : List (Option Link) → LinkReader → Type 0 where
  made : {reader : LinkReader} → Made table reader → Run table [] reader
  asked : {answers : List (Option Link)} {reader after : LinkReader} (next : Option Link)
      → Run table answers reader → Moved reader next after → Run table (answers ++ (next ∷ [])) after

-- The answers of a whole run are the table's links in order, and then "no more" for ever; of a refused table "no more" at once. (proofs/Runs)
pub record RunsGiveLinks : Type 0 where
  pub in_order : {table : Bor (List ℕ)} {answers : List (Option Link)} {reader : LinkReader} → Run table answers reader
      → map next_numbers answers ≡ map (link_answer table.now) (below (length answers))
  pub of_refused : {table : Bor (List ℕ)} {answers : List (Option Link)} {reader : LinkReader} → Run table answers reader
      → number_of (read table.now) ≢ 0 → All (λ next. next ≡ None) answers
