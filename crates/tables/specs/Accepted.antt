-- A table that is accepted, with what its bytes hold; that it is accepted, and the outline its own, the type says.
use Rattle.std.specs.Prelude.{◌≡◌, List, ℕ, Result, Ok, Err}
use Rattle.std.specs.Borrow.{Bor}
use Rattle.rules.specs.Demand1.{IsAccepted}
use Rattle.rules.specs.Answers.{of_table}
use Rattle.refusals.specs.Refusals.{refusal_told}
use Rattle.refusals.specs.declared.Refusal.{Refusal}
use Rattle.tables.specs.declared.accepted.Table.{Table}

-- r is the table of these very bytes, or they are refused by their own number and place
abbrev pub Accepts : Bor (List ℕ) → Result Table Refusal → Type 0
Accepts bytes (Ok t) = t.bytes ≡ bytes
Accepts bytes (Err r) = (¬ IsAccepted bytes.now) × (refusal_told r ≡ of_table 0 bytes.now)
