-- The full interface table of a router, into a lent output; the answer is the number of bytes written.
use Rattle.std.specs.Prelude.{List, [], ◌∷◌, ℕ, ◌+◌, ◌*◌, ◌≤◌, ◌<◌, length}
use Rattle.rules.specs.Words.{◌<?◌, Line, ◌when◌}
use Rattle.rules.specs.Table.{says}
use Rattle.rules.specs.Entries.{interfaces}
use Rattle.rules.specs.Answers.{Answer, answer, afterwards, on_tables, bad_router, Case, ◌unless◌, accepts, Exactly, RefusedBy, Output}

pub record InterfacesInputs : Type 0 where
  pub table : List ℕ
  pub router : ℕ
  pub out : List ℕ

-- the bytes of an interface table of n routers
abbrev pub cells : ℕ → ℕ
cells n = (n + 1) * n

-- 9, 10: of a table of n routers, with so many bytes of room
unfoldable pub interfaces_refusals : ℕ → ℕ → ℕ → List (Line ℕ)
interfaces_refusals n i room = 9 when bad_router n i ∷ 10 when (room <? cells n) ∷ []

unfoldable pub interfaces_answer : InterfacesInputs → Answer ℕ
interfaces_answer q =
    let n = (says q.table).routers in
    answer (on_tables (q.table ∷ []) (interfaces_refusals n q.router (length q.out))) 0 (cells n)

unfoldable pub interfaces_after : InterfacesInputs → List ℕ
interfaces_after q = afterwards (interfaces_answer q) (interfaces (says q.table) q.router) q.out

-- ---- what is proved (proofs/InterfacesQuestion)

-- the table, 9, 10
abbrev pub interfaces_cases : InterfacesInputs → List Case
interfaces_cases q =
    let n = (says q.table).routers in
    accepts 0 q.table ∷ 9 unless (q.router < n) ∷ 10 unless (cells n ≤ length q.out) ∷ []

pub record InterfacesProved (q : InterfacesInputs) : Type 0 where
  pub exactly : Exactly (interfaces_cases q) 0 (cells (says q.table).routers) (interfaces_answer q)
  pub refusals : RefusedBy 0 (9 ∷ 10 ∷ []) 0 (interfaces_answer q)
  pub out_held : Output (interfaces_answer q) (cells (says q.table).routers) (interfaces (says q.table) q.router) q.out (interfaces_after q)
