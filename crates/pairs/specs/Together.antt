-- Two tables that go together, with how many links differ; that they go together, and that so many differ, the type says.
use Rattle.std.specs.Prelude.{◌≡◌, List, ℕ, Result, Ok, Err}
use Rattle.std.specs.Borrow.{Bor}
use Rattle.rules.specs.PairQuestion.{pair_answer}
use Rattle.refusals.specs.Refusals.{refusal_told}
use Rattle.refusals.specs.declared.Refusal.{Refusal}
use Rattle.pairs.specs.declared.both.Together.{Together}

-- r is the two tables of these very bytes, or they are refused as the question about two tables together is
abbrev pub AcceptsTogether : Bor (List ℕ) → Bor (List ℕ) → Result Together Refusal → Type 0
AcceptsTogether old new (Ok t) = (t.old.bytes ≡ old) × (t.new.bytes ≡ new)
AcceptsTogether old new (Err r) = refusal_told r ≡ (pair_answer (record { old = old.now; new = new.now })).refusal
