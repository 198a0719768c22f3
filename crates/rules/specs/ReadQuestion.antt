-- Reading one table: N and the number of links.
use Rattle.std.specs.Prelude.{List, [], ◌∷◌, ℕ, length}
use Rattle.rules.specs.Layout.{Table}
use Rattle.rules.specs.Table.{says}
use Rattle.rules.specs.Answers.{Answer, answer, on_tables, accepts, Exactly, RefusedBy}

pub record Reading : Type 0 where
  pub routers : ℕ
  pub links : ℕ

abbrev pub no_reading : Reading
no_reading = record { routers = 0; links = 0 }

abbrev pub reading : Table → Reading
reading t = record { routers = t.routers; links = length t.links }

unfoldable pub read_answer : List ℕ → Answer Reading
read_answer table = answer (on_tables (table ∷ []) []) no_reading (reading (says table))

-- ---- what is proved (proofs/ReadQuestion)

pub record ReadProved (table : List ℕ) : Type 0 where
  pub exactly : Exactly (accepts 0 table ∷ []) (record { routers = 0; links = 0 })
      (record { routers = (says table).routers; links = length (says table).links }) (read_answer table)
  pub refusals : RefusedBy 0 [] (record { routers = 0; links = 0 }) (read_answer table)
