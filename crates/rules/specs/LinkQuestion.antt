-- The link reader's answers one after another: the links in order, then "no more" for ever.
use Rattle.std.specs.Prelude.{◌≡◌, List, [], ℕ, ◌≤◌, ◌<◌, length, get_or}
use Rattle.rules.specs.Words.{◌<?◌, pick}
use Rattle.rules.specs.Layout.{Link}
use Rattle.rules.specs.Table.{says}
use Rattle.rules.specs.Demand1.{IsAccepted}

-- 1 and a link, or 0 for "no more" and zeros
pub record NextLink : Type 0 where
  pub more : ℕ
  pub link : Link

abbrev pub no_more : NextLink
no_more = record { more = 0; link = record { a = 0; b = 0; weight = 0 } }

unfoldable pub link_in : List Link → ℕ → NextLink
link_in ls k = pick (k <? length ls) (record { more = 1; link = get_or ls k no_more.link }) no_more

-- what a reader made from these bytes gives when it has given k answers; a refused table has no links
unfoldable pub link_answer : List ℕ → ℕ → NextLink
link_answer table k = link_in (says table).links k

-- ---- what is proved (proofs/LinkQuestion)

pub record LinkProved (table : List ℕ) (k : ℕ) : Type 0 where
  pub given : k < length (says table).links → link_answer table k ≡ record { more = 1; link = get_or (says table).links k no_more.link }
  pub at_end : length (says table).links ≤ k → link_answer table k ≡ record { more = 0; link = record { a = 0; b = 0; weight = 0 } }
  -- a refused table has no links
  pub of_refused : ¬ IsAccepted table → (says table).links ≡ []
