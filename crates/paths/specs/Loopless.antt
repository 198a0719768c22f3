-- Demand 3 of what the path question's function answers and writes: an ending and the trace tell a path, and all that `rules` says of a path holds of it.
-- The statement is proved in proofs/Loopless.
use Rattle.std.specs.Prelude.{◌≡◌, List, ℕ, suc, ◌<◌, take, drop, Result, Ok, Err}
use Rattle.rules.specs.Table.{says}
use Rattle.rules.specs.Links.{weight}
use Rattle.rules.specs.Paths.{Path, listed, site_of}
use Rattle.rules.specs.Demand3.{EachHop, Loopless, AllNew, AtLeastCost}
use Rattle.rules.specs.PathQuestion.{PathInputs, packet_of, PathAsked}
use Rattle.paths.specs.declared.Ending.{Ending}
use Rattle.refusals.specs.declared.Refusal.{Refusal}
use Rattle.paths.specs.Following.{outcome_told}
use Rattle.paths.specs.PathAnswers.{AnswersPath}

-- the path that an ending and the trace tell: the first hops + 1 bytes are the visited routers
unfoldable pub path_told : Ending → List ℕ → Path
path_told e trace = record { outcome = outcome_told e.outcome; router = e.router; hops = e.hops; trace = take (suc e.hops) trace }

-- no router twice, routers less one hops at most, from the source to where the packet ended, over real links; with all views new at least cost
pub record Demand3Told (q : PathInputs) (p : Path) : Type 0 where
  pub loopless : Loopless (says q.new).routers q.source (site_of (packet_of q)) (listed q.views) p
  pub over_new_links : EachHop (λ i k. 0 < weight (says q.new) i k) p.trace
  pub all_new : AllNew (listed q.views) p → AtLeastCost (says q.new) q.source q.destination p

-- what is asked rightly is answered by such a path, with nothing written behind it; a refusal changes no byte
abbrev pub OfAnswer : PathInputs → Result Ending Refusal → List ℕ → Type 0
OfAnswer q (Ok e) trace = PathAsked q × Demand3Told q (path_told e trace) × (drop (suc e.hops) trace ≡ drop (suc e.hops) q.trace)
OfAnswer q (Err r) trace = (¬ PathAsked q) × (trace ≡ q.trace)

-- whatever bytes and numbers arrive
abbrev pub Demand3OfTheCode : Type 0
Demand3OfTheCode = (q : PathInputs) (r : Result Ending Refusal) (trace : List ℕ) → AnswersPath q r trace → OfAnswer q r trace
