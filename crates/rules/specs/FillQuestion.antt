-- The fill: costs and next-hop sets of one destination, in two lent outputs; the answer is N.
use Rattle.std.specs.Prelude.{◌||◌, List, [], ◌∷◌, map, ℕ, ◌≤◌, ◌<◌, length}
use Rattle.rules.specs.Words.{◌<?◌, Line, ◌when◌, below}
use Rattle.rules.specs.Layout.{Table}
use Rattle.rules.specs.Table.{says}
use Rattle.rules.specs.Costs.{cost}
use Rattle.rules.specs.NextHops.{next_hops}
use Rattle.rules.specs.Answers.{Answer, answer, afterwards, on_tables, bad_router, Case, ◌unless◌, accepts, Exactly, RefusedBy, Output}

pub record FillInputs : Type 0 where
  pub table : List ℕ
  pub destination : ℕ
  pub costs : List ℕ
  pub sets : List ℕ

-- 9, 10: of a table of n routers, with so many places for costs and for sets
unfoldable pub fill_refusals : ℕ → ℕ → ℕ → ℕ → List (Line ℕ)
fill_refusals n d costs sets = 9 when bad_router n d ∷ 10 when (costs <? n || sets <? n) ∷ []

unfoldable pub fill_answer : FillInputs → Answer ℕ
fill_answer q =
    let n = (says q.table).routers in
    answer (on_tables (q.table ∷ []) (fill_refusals n q.destination (length q.costs) (length q.sets))) 0 n

-- what is written: one number for each router
abbrev pub filled_costs : Table → ℕ → List ℕ
filled_costs t d = map (λ i. cost t i d) (below t.routers)

abbrev pub filled_sets : Table → ℕ → List ℕ
filled_sets t d = map (λ i. next_hops t i d) (below t.routers)

unfoldable pub costs_after : FillInputs → List ℕ
costs_after q = afterwards (fill_answer q) (filled_costs (says q.table) q.destination) q.costs

unfoldable pub sets_after : FillInputs → List ℕ
sets_after q = afterwards (fill_answer q) (filled_sets (says q.table) q.destination) q.sets

-- ---- what is proved (proofs/FillQuestion)

-- the table, 9, 10
abbrev pub fill_cases : FillInputs → List Case
fill_cases q =
    let n = (says q.table).routers in
    accepts 0 q.table ∷ 9 unless (q.destination < n) ∷ 10 unless ((n ≤ length q.costs) × (n ≤ length q.sets)) ∷ []

pub record FillProved (q : FillInputs) : Type 0 where
  pub exactly : Exactly (fill_cases q) 0 (says q.table).routers (fill_answer q)
  pub refusals : RefusedBy 0 (9 ∷ 10 ∷ []) 0 (fill_answer q)
  pub costs_held : Output (fill_answer q) (says q.table).routers
      (map (λ i. cost (says q.table) i q.destination) (below (says q.table).routers)) q.costs (costs_after q)
  pub sets_held : Output (fill_answer q) (says q.table).routers
      (map (λ i. next_hops (says q.table) i q.destination) (below (says q.table).routers)) q.sets (sets_after q)
