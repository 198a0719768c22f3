-- `tables::read` meets its contract. From what judging tells: where the table ends, the links before it, and 7 behind it.
-- Assumes nothing.
use mathlib.Core.List.{List, [], ◌∷◌}
use Prim.Native.Nat.{ℕ, suc}
use native.Mathlib.Omega.{arith}
use lib.ListN.{get_or}
use mir.Syntax.{w8}
use mir.Val.{Fits}
use Rattle.rules.specs.Layout.{Bytes}
use Rattle.refusals.proofs.Exits.{exit_is}
use Rattle.tables.proofs.Asked.{accepted_told, refused_told}
use Rattle.tables.proofs.read.Goals as goal

-- every element of a slice of bytes is a byte
all_bytes : (xs : List ℕ) → ((i : ℕ) → Fits w8 (get_or xs i 0)) → Bytes xs
all_bytes [] h = tt
all_bytes (x ∷ xs) h = (omega (arith, h 0), all_bytes xs (λ i. h (suc i)))

pub returns-in_err-judged : goal.returns-in_err-judged
returns-in_err-judged c =
    rw (exit_is _ c.from_residual.ensures.1) (refused_told _ (all_bytes _ c.type_inv.table) _ c.in_err-judged.ensures)

pub returns-then-judged-table : goal.returns-then-judged-table
returns-then-judged-table c =
    rw c.at.ensures ((accepted_told _ (all_bytes _ c.type_inv.table) _ c.in_ok-judged.ensures).behind c.if-judged-table.true)

pub overflow_sub-result : goal.overflow_sub-result
overflow_sub-result c = omega (arith, (accepted_told _ (all_bytes _ c.type_inv.table) _ c.in_ok-judged.ensures).room)

pub overflow_sub-result-2 : goal.overflow_sub-result-2
overflow_sub-result-2 c = omega (arith, (accepted_told _ (all_bytes _ c.type_inv.table) _ c.in_ok-judged.ensures).room)

pub returns : goal.returns
returns c = rw c.from.ensures ((accepted_told _ (all_bytes _ c.type_inv.table) _ c.in_ok-judged.ensures).whole c.if-judged-table.false)
