-- What stands in front while two tables are compared link by link.
use Rattle.std.specs.Prelude.{List, ℕ}
use Rattle.rules.specs.Words.{◌=?◌, pick}
use Rattle.rules.specs.Layout.{pair_number}
use Rattle.rules.specs.LinkQuestion.{NextLink}
use Rattle.links.specs.Links.{link_at, behind}
use Rattle.pairs.specs.declared.Front.{Front}

-- a number above every pair, which stands for the end of the links
abbrev pub no_pair : ℕ
no_pair = 65536

-- the pair and the weight of the next link, and the place behind it
unfoldable pub front_of : NextLink → ℕ → Front
front_of next further = record { pair = pick (next.more =? 0) no_pair (pair_number next.link); weight = next.link.weight; behind = further }

-- what stands in front at a place of a table
abbrev pub front_at : List ℕ → ℕ → Front
front_at bytes place = front_of (link_at bytes place) (behind bytes place)
