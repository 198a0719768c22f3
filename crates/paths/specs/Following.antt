-- A packet's path over the guides: each router's next-hop set in either view, and its neighbours over links that carry.
use Rattle.std.specs.Prelude.{◌≡◌, List, ◌++◌, map, ℕ, zero, suc, ◌+◌, ◌-◌, ◌≤◌, ◌<◌, length, take, drop, get_or}
use Rattle.std.proofs.lemmas.List.Edits.{sets}
use Rattle.rules.specs.Words.{◌=?◌, pick, below}
use Rattle.rules.specs.NextHops.{has}
use Rattle.rules.specs.Entries.{Rules}
use Rattle.rules.specs.Paths.{Outcome, delivered, discarded, unrouted, lost, Path, Site, by, ended, follow, leave, listed, path_in}
use Rattle.tables.specs.declared.accepted.Table.{Table}
use Rattle.webs.specs.declared.Web.{Web}
use Rattle.webs.specs.Webs.{web_at, web_weight}
use Rattle.search.specs.Search.{costs_from, cost_at, hops_over}
use Rattle.entries.specs.Entries.{pipo}
use Rattle.pairs.specs.declared.both.Together.{Together}
use Rattle.paths.specs.declared.Outcome.{Outcome as OutcomeHere}
use Rattle.paths.specs.declared.Outcome.TheVariants.{Delivered, Discarded, NoRoute, Lost}
use Rattle.paths.specs.declared.Ending.{Ending}
use Rattle.paths.specs.declared.Guides.{Guides}
use Rattle.paths.specs.declared.Site.{Site as SiteHere}
use Rattle.paths.specs.declared.Visited.{Visited}

-- ---- the guides

-- the sets of a view, by the byte of the list that says it
unfoldable pub sets_in_view : Guides → ℕ → List ℕ
sets_in_view guides byte = pick (byte =? 1) guides.new guides.old

-- each router goes by its own set
unfoldable pub rules_over : List ℕ → Rules
rules_over sets = record {
  has_route = λ i. (pipo (get_or sets i 0)).has_route i;
  discards = λ i j. (pipo (get_or sets i 0)).discards i j;
  hop = λ i j. (pipo (get_or sets i 0)).hop i j;
}

-- what a packet for d meets, whatever the guides hold
unfoldable pub site_over : ℕ → Guides → Site
site_over d guides = record {
  destination = d;
  rules = λ v. rules_over (by v guides.old guides.new);
  carries = λ i k. has (get_or guides.carriers i 0) k;
}

-- ---- the guides of tables

-- each router's next-hop set for d, over a web
unfoldable pub sets_over : Web → ℕ → List ℕ
sets_over web d = map (hops_over (web_weight web) (cost_at (costs_from (web_weight web) d))) (below 64)

-- of a table: each router's next-hop set for d, and the set of those that it is linked to
abbrev pub sets_of : Table → ℕ → List ℕ
sets_of t = sets_over (web_at t.bytes.now t.outline)

abbrev pub near_of : Table → List ℕ
near_of t = (web_at t.bytes.now t.outline).near

-- the guides of two tables: the sets of both, and the links of the new one
abbrev pub guides_to : Together → ℕ → Guides
guides_to t d = record { old = sets_of t.old d; new = sets_of t.new d; carriers = near_of t.new }

-- ---- what following tells

-- the outcome that each case tells
unfoldable pub outcome_told : OutcomeHere → Outcome
outcome_told Delivered = delivered
outcome_told Discarded = discarded
outcome_told NoRoute = unrouted
outcome_told Lost = lost

-- e is the ending of a path
abbrev pub Ends : Ending → Path → Type 0
Ends e path = (outcome_told e.outcome ≡ path.outcome) × (e.router ≡ path.router) × (e.hops ≡ path.hops)

-- the visited routers in front; behind them stands what was lent
abbrev pub written : Path → List ℕ → List ℕ
written path lent = path.trace ++ drop (length path.trace) lent

-- ---- arriving and leaving

-- The packet stands at router i. All that is asked: i is one of 64 routers, and so few hops are made that the 64 places for views and for visited
-- routers are enough.
pub record Standing (i hops left : ℕ) : Type 0 where
  pub router : i < 64
  pub few : hops + left < 64

module _ (s : SiteHere) where
  -- at router i, from j, after so many hops, with so many left
  abbrev pub arriving : ℕ → ℕ → ℕ → ℕ → Path
  arriving i j hops left = follow (site_over s.destination s.guides.now) (listed s.views.now) left hops i j

  -- from router i for the hop k
  unfoldable pub leaving : ℕ → ℕ → ℕ → ℕ → Path
  leaving i k hops zero = ended lost i
  leaving i k hops (suc left) = leave (site_over s.destination s.guides.now) i k (arriving k i (suc hops) left)

  -- the outcome; the places for visited routers from this router on; and the hops that were made in all
  abbrev pub Arrives : ℕ → ℕ → ℕ → ℕ → Visited → OutcomeHere → Visited → Type 0
  Arrives i j hops left visited r after =
      let path = arriving i j hops left in
      (outcome_told r ≡ path.outcome) × (after.routers ≡ sets visited.routers hops path.trace) × (after.hops ≡ hops + path.hops)

  -- the same from behind this router on, which is written already
  abbrev pub Leaves : ℕ → ℕ → ℕ → ℕ → Visited → OutcomeHere → Visited → Type 0
  Leaves i k hops left visited r after =
      let path = leaving i k hops left in
      (outcome_told r ≡ path.outcome) × (after.routers ≡ sets visited.routers (hops + 1) (drop 1 path.trace)) × (after.hops ≡ hops + path.hops)

-- ---- one packet

-- the source is one of 64 routers, and there are N − 1 views
pub record Lent (routers s : ℕ) (views : List ℕ) : Type 0 where
  pub some : 0 < routers
  pub few : routers ≤ 64
  pub source : s < 64
  pub views_enough : routers - 1 ≤ length views

-- the path over the guides from s to d, by the first N − 1 views; a router that decides behind them uses the old view
unfoldable pub path_over : Guides → ℕ → ℕ → ℕ → List ℕ → Path
path_over guides routers s d views = path_in routers (site_over d guides) (listed (take (routers - 1) views)) s
