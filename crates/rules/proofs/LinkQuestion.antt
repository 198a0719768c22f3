-- The link reader's answers: the links in order, then "no more" for ever.
-- Assumes nothing.
use mathlib.Core.Path.{◌≡◌, refl}
use mathlib.Core.Logic.{◌≢◌}
use mathlib.Core.List.{List, []}
use Prim.Native.Nat.{ℕ}
use lib.ListN.{length}
use borrow.Author.Tests.{lt-ltb, le-ltb}
use Rattle.rules.specs.Words.{those}
use Rattle.rules.specs.Table.{Judged, accepted, refused, read, number_of, records_of, table_of, says}
use Rattle.rules.specs.LinkQuestion.{link_in, link_answer, LinkProved}
use Rattle.rules.proofs.Basics.{pick_t, pick_f}

-- a refused table has no records, and so no links
links_of : (j : Judged) → number_of j ≢ 0 → (table_of (records_of j)).links ≡ []
unfolding table_of those
links_of (accepted rs end) n = absurd (n refl)
links_of (refused number place) n = refl

pub link_proved : (table : List ℕ) (k : ℕ) → LinkProved table k
unfolding link_in link_answer says
link_proved table k = record {
  given = λ h. pick_t _ _ _ (lt-ltb k (length (says table).links) h);
  at_end = λ h. pick_f _ _ _ (le-ltb k (length (says table).links) h);
  of_refused = links_of (read table);
}
