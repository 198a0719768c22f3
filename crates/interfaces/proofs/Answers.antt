-- The answer about an interface table and the output afterwards: a refusal leaves the output, else the table is written.
-- Assumes nothing.
use mathlib.Core.Path.{◌≡◌, sym, ◌∙◌, ap}
use mathlib.Core.List.{List, ◌++◌}
use Prim.Native.Nat.{ℕ}
use lib.ListN.{length, drop}
use Rattle.std.specs.Prelude.{Ok, Err}
use Rattle.rules.specs.Table.{says}
use Rattle.rules.specs.Entries.{interfaces}
use Rattle.rules.specs.Answers.{number_in}
use Rattle.rules.specs.InterfacesQuestion.{InterfacesInputs, cells, interfaces_refusals, interfaces_answer, interfaces_after}
use Rattle.rules.proofs.Interfaces.{length_interfaces}
use Rattle.refusals.specs.declared.Refusal.{Refusal}
use Rattle.tables.specs.declared.accepted.Table.{Table}
use Rattle.tables.proofs.Asked.{own_routers}
use Rattle.tables.proofs.OnTable.{none_refuses, output_left, output_written}
use Rattle.interfaces.specs.Interfaces.{writing_numbers, Writes}

pub refused : (q : InterfacesInputs) (r : Refusal) → writing_numbers (Err r) ≡ interfaces_answer q → Writes q (Err r) q.out
unfolding interfaces_after
refused q r e = (e, output_left _ _ _ _ _ r e)

module _ (t : Table) (i : ℕ) (lent : List ℕ) where
  abbrev n : ℕ
  n = t.outline.routers

  own : n ≡ (says t.bytes.now).routers
  own = own_routers _ t.outline t.outlined

  pub written : 0 ≡ number_in (interfaces_refusals n i (length lent)) → (size : ℕ) → size ≡ cells n → (out : List ℕ)
      → out ≡ interfaces (says t.bytes.now) i ++ drop (cells n) lent → Writes (record { table = t.bytes.now; router = i; out = lent }) (Ok size) out
  unfolding interfaces_answer interfaces_after
  written e size s out x =
      let told = none_refuses 0 _ (λ b. b) t (λ n. interfaces_refusals n i (length lent)) e size (s ∙ ap cells own) in
      (told, output_written _ _ _ _ _ _ told _ (length_interfaces _ i ∙ sym (ap cells own)) _ x)
