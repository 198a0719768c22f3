-- What is proved of the entry question.
-- Assumes nothing.
use mathlib.Core.Path.{◌≡◌, refl, sym, subst}
use mathlib.Core.Logic.{◌≢◌, ◌⊎◌, inl, inr, ◌↔◌}
use mathlib.Core.Bool.{false, ◌&&◌, ◌||◌, not, and-false}
use mathlib.Core.List.{[], ◌∷◌}
use Prim.Native.Nat.{ℕ, ◌<◌}
use native.Mathlib.Decide.{ℕ_discrete}
use native.Mathlib.Omega.{arith}
use lib.Dec.{eqb, leb}
use borrow.Author.Tests.{leb-false, lt-leb, eqb-false, eq-eqb, ne_eqb}
use Rattle.rules.specs.Table.{says}
use Rattle.rules.specs.Entries.{code}
use Rattle.rules.specs.Demand2.{FourLines}
use Rattle.rules.specs.Answers.{Exactly}
use Rattle.rules.specs.EntryQuestion.{EntryInputs, bad_previous, entry_refusals, entry_asked, entry_answer, EntryNumbers, entry_cases, EntryProved}
use Rattle.rules.proofs.Acceptance.{obeys}
use Rattle.rules.proofs.Entries.{entries_by_lines}
use Rattle.rules.proofs.Answers.{tables_first, listed_numbers, asks_both, asks_routers}

-- a previous hop that is 255 or a router, and not the router asked about
asks_previous : (n i j : ℕ) → (bad_previous n i j ≡ false) ↔ (((j ≡ 255) ⊎ (j < n)) × (j ≢ i))
asks_previous n i j = asks_both (not (eqb j 255) && leb n j) (eqb j i) (out, back) (eqb-false j i, ne_eqb j i)
  where
    out : (not (eqb j 255) && leb n j) ≡ false → (j ≡ 255) ⊎ (j < n)
    out e = go (ℕ_discrete j 255)
      where
        go : Dec (j ≡ 255) → (j ≡ 255) ⊎ (j < n)
        go (yes q) = inl q
        go (no q) = inr (leb-false n j (rw (ne_eqb j 255 q) at e))

    back : (j ≡ 255) ⊎ (j < n) → (not (eqb j 255) && leb n j) ≡ false
    back (inl q) = rw (eq-eqb j 255 q)
    back (inr q) = rw (lt-leb n j q) (and-false (not (eqb j 255)))

-- what 9 asks for
pub asks_numbers : (n i j d : ℕ) → ((leb n i || leb n d || bad_previous n i j) ≡ false) ↔ EntryNumbers n i j d
asks_numbers n i j d =
    let r = asks_both (leb n i || leb n d) (bad_previous n i j) (asks_routers n n i d) (asks_previous n i j) in (
      λ e. let ((a, b), (c, f)) = r.0 e in record { router_below = a; destination_below = b; previous_below = c; not_itself = f },
      λ h. r.1 ((h.router_below, h.destination_below), (h.previous_below, h.not_itself)),
    )

pub entry_proved : (q : EntryInputs) → EntryProved q
unfolding entry_answer entry_refusals entry_asked
entry_proved q = record {
  exactly = exact;
  refusals = listed_numbers _ (q.table ∷ []) (entry_refusals n q.router q.previous q.destination) _ _;
  by_lines = λ h.
      subst (FourLines (says q.table) q.router q.previous q.destination) (sym (exact.given h))
      (entries_by_lines (says q.table) (obeys q.table (exact.asked.0 h).0) q.router q.previous q.destination);
}
  where
    n : ℕ
    n = (says q.table).routers

    exact : Exactly (entry_cases q) 0 (code (entry_asked q)) (entry_answer q)
    exact =
        tables_first _ (q.table ∷ []) (entry_refusals n q.router q.previous q.destination) _ _ _
        (refl, asks_numbers n q.router q.previous q.destination, tt) (omega arith, tt)
