-- Lines on a page: what is put where, and a router's lines by what a search from it found.
use Rattle.std.specs.Prelude.{◌≡◌, not, ℕ, ◌+◌, min, length, get_or, take, drop}
use mathlib.Core.List.{List, ◌++◌, map, flatten}
use Rattle.std.specs.Borrow.{MutBor}
use Rattle.rules.specs.Words.{◌=?◌, those, below}
use Rattle.rules.specs.Costs.{no_cost}
use Rattle.rules.specs.Listing.{line_of, header, refusal_line}
use Rattle.webs.specs.Webs.{web_weight}
use Rattle.webs.specs.declared.Web.{Web}
use Rattle.search.specs.declared.Found.{Found}
use Rattle.search.specs.Search.{found_from}
use Rattle.lines.specs.declared.Page.{Page}

-- what is written on a page: the bytes in front of its end
abbrev pub written : Page → List ℕ
written page = take page.end page.bytes.now

-- nothing is written on the page that was lent
pub record Begins (bytes : MutBor (List ℕ)) (page : Page) : Type 0 where
  pub lent : page.bytes.ghost_name ≡ bytes.ghost_name
  pub same : page.bytes.now ≡ bytes.now
  pub nothing : page.end ≡ 0

-- the bytes are put behind what is written on the page, which stays where it is, and every byte behind them is as it was
pub record Puts (page : Page) (bytes : List ℕ) (page' : Page) : Type 0 where
  pub lent : page'.bytes.ghost_name ≡ page.bytes.ghost_name
  pub behind : page'.end ≡ page.end + length bytes
  pub more : written page' ≡ written page ++ bytes
  pub rest : drop page'.end page'.bytes.now ≡ drop page'.end page.bytes.now

-- the bytes stand at the start of the page, the answer is how many there are, and every byte behind them is as it was
pub record Writes (page bytes : List ℕ) (r : ℕ) (page' : List ℕ) : Type 0 where
  pub counted : r ≡ length bytes
  pub written : page' ≡ bytes ++ drop (length bytes) page

-- router i's lines to the others of n routers, of which the first 64 count, by the costs and sets that were found
unfoldable pub lines_found : Found → ℕ → ℕ → List ℕ
lines_found found n i =
    flatten
    (map (λ d. line_of i d (get_or found.costs d no_cost) (get_or found.sets d 0)) (those (λ d. not (d =? i)) (below (min n 64))))

-- the same by a search from it over these weights
unfoldable pub lines_over : (ℕ → ℕ → ℕ) → ℕ → ℕ → List ℕ
lines_over w n i = lines_found (found_from w i) n i

-- ---- what each page holds

-- the first line of every listing
abbrev pub WritesHeader : List ℕ → ℕ → List ℕ → Type 0
WritesHeader page r page' = Writes page header r page'

-- the only line of a refusal
abbrev pub WritesRefusal : List ℕ → ℕ → ℕ → ℕ → List ℕ → Type 0
WritesRefusal page number place r page' = Writes page (refusal_line number place) r page'

-- a router's lines, by a search from it over a web's weights
abbrev pub WritesLines : List ℕ → Web → ℕ → ℕ → ℕ → List ℕ → Type 0
WritesLines page web routers router r page' = Writes page (lines_over (web_weight web) routers router) r page'
