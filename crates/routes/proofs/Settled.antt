-- Every promise of this crate allows one answer, and the outputs are what a definition says.
-- Assumes nothing.
use mathlib.Core.Path.{refl, sym, ◌∙◌}
use mathlib.Core.List.{List}
use Prim.Native.Nat.{ℕ}
use Rattle.std.specs.Prelude.{Result}
use Rattle.rules.specs.FillQuestion.{FillInputs, fill_answer}
use Rattle.rules.specs.Promises.{Settles}
use Rattle.rules.proofs.Uniqueness.{value_settled}
use Rattle.refusals.specs.declared.Refusal.{Refusal}
use Rattle.refusals.proofs.Settled.{numbers_settled}
use Rattle.webs.specs.declared.Web.{Web}
use Rattle.routes.specs.Fillings.{Fills}
use Rattle.routes.specs.Hops.{FindsHops, FindsSets}

-- the answer, and both outputs afterwards
pub fill_settled : (q : FillInputs) → Settles (λ (all : Result ℕ Refusal × List ℕ × List ℕ). Fills q all.0 all.1 all.2)
fill_settled q x y p r = λ i. (
  numbers_settled 0 (λ n. n) (λ n. n) (λ n. refl) (fill_answer q) x.0 y.0 p.0 r.0 i,
  (p.1 ∙ sym r.1) i,
  (p.2 ∙ sym r.2) i,
)

pub next_hops_settled : (web : Web) (costs : List ℕ) (router : ℕ) → Settles (FindsHops web costs router)
next_hops_settled web costs router = value_settled _

pub sets_by_settled : (web : Web) (costs : List ℕ) → Settles (FindsSets web costs)
sets_by_settled web costs = value_settled _
