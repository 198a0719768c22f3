-- `lines::Page::members` meets its contract. The loop begins behind the first member.
use mathlib.Core.Path.{◌≡◌}
use mathlib.Core.List.{◌∷◌, ◌++◌, map}
use Rattle.rules.specs.NextHops.{members}
use Rattle.rules.specs.Listing.{decimal, joined_by_commas}
use Rattle.lines.specs.Lines.{Puts}
use Rattle.lines.proofs.Page.members.Given as goal

-- the members so far stand on the page, and with those that are left they are all
abbrev pub invariant-loop-k : goal.invariant-loop-k
invariant-loop-k l = record {
  all : members l.set ≡ l.first ∷ (l.yielded ++ l.k-iterator);
  put : Puts l.fn.self (joined_by_commas (map decimal (l.first ∷ l.yielded))) l.page;
}
