-- Two tables together: N, which is one number for both, and how many links differ.
use Rattle.std.specs.Prelude.{◌≡◌, ◌↔◌, List, [], ◌∷◌, ℕ, ◌≤◌}
use Rattle.rules.specs.Words.{Line, ◌when◌}
use Rattle.rules.specs.Layout.{Table}
use Rattle.rules.specs.Table.{says}
use Rattle.rules.specs.Pairs.{differing, too_different}
use Rattle.rules.specs.Demand1.{IsAccepted}
use Rattle.rules.specs.Answers.{Answer, Answered, answer, on_tables, Case, ◌unless◌, accepts, Exactly, RefusedBy}

pub record PairInputs : Type 0 where
  pub old : List ℕ
  pub new : List ℕ

pub record Pairing : Type 0 where
  pub routers : ℕ
  pub differ : ℕ

abbrev pub no_pairing : Pairing
no_pairing = record { routers = 0; differ = 0 }

abbrev pub pairing : Table → Table → Pairing
pairing old new = record { routers = new.routers; differ = differing old new }

-- 8
abbrev pub pair_refusals : Table → Table → List (Line ℕ)
pair_refusals old new = 8 when too_different old new ∷ []

unfoldable pub pair_answer : PairInputs → Answer Pairing
pair_answer q =
    answer (on_tables (q.old ∷ q.new ∷ []) (pair_refusals (says q.old) (says q.new))) no_pairing (pairing (says q.old) (says q.new))

-- ---- what is proved (proofs/PairQuestion)

-- old table, new table, 8
abbrev pub pair_cases : PairInputs → List Case
pair_cases q =
    accepts 0 q.old
    ∷ accepts 1 q.new
    ∷ 8 unless (((says q.old).routers ≡ (says q.new).routers) × (differing (says q.old) (says q.new) ≤ 1))
    ∷ []

-- two accepted tables with the same routers, differing in one link at most
pub record AcceptedTogether (old new : List ℕ) : Type 0 where
  pub old_accepted : IsAccepted old
  pub new_accepted : IsAccepted new
  pub same_routers : (says old).routers ≡ (says new).routers
  pub one_link : differing (says old) (says new) ≤ 1

pub record PairProved (q : PairInputs) : Type 0 where
  pub exactly : Exactly (pair_cases q) (record { routers = 0; differ = 0 })
      (record { routers = (says q.new).routers; differ = differing (says q.old) (says q.new) }) (pair_answer q)
  pub asked : Answered (pair_answer q) ↔ AcceptedTogether q.old q.new
  pub refusals : RefusedBy 1 (8 ∷ []) (record { routers = 0; differ = 0 }) (pair_answer q)
