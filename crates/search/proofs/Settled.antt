-- Every promise of this crate allows one answer.
-- Assumes nothing.
use Prim.Native.Nat.{ℕ}
use Rattle.rules.specs.Promises.{Settles}
use Rattle.rules.proofs.Uniqueness.{value_settled}
use Rattle.webs.specs.declared.Web.{Web}
use Rattle.search.specs.Search.{FindsCosts, FindsAll}

pub costs_from_settled : (web : Web) (router : ℕ) → Settles (FindsCosts web router)
costs_from_settled web router = value_settled _

pub all_from_settled : (web : Web) (router : ℕ) → Settles (FindsAll web router)
all_from_settled web router = value_settled _
