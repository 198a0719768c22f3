-- `lines::Page::decimal` calls itself for all digits but the last: of a number that is smaller.
use Rattle.lines.proofs.Page.+decimal.Given as goal

abbrev pub decreases-decimal : goal.decreases-decimal
decreases-decimal l = l.x
