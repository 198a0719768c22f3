-- What stands on the page and how many bytes there are is settled by each promise.
-- Assumes nothing.
use mathlib.Core.Path.{sym, ◌∙◌}
use mathlib.Core.List.{List}
use Prim.Native.Nat.{ℕ}
use Rattle.rules.specs.Promises.{SettlesBoth}
use Rattle.webs.specs.declared.Web.{Web}
use Rattle.lines.specs.Lines.{Writes, WritesHeader, WritesRefusal, WritesLines}

-- the count, and the page afterwards
writing_settled : (page bytes : List ℕ) → SettlesBoth (Writes page bytes)
writing_settled page bytes x y p q = λ z. ((p.counted ∙ sym q.counted) z, (p.written ∙ sym q.written) z)

pub header_settled : (page : List ℕ) → SettlesBoth (WritesHeader page)
header_settled page = writing_settled _ _

pub refusal_line_settled : (page : List ℕ) (number place : ℕ) → SettlesBoth (WritesRefusal page number place)
refusal_line_settled page number place = writing_settled _ _

pub router_lines_settled : (page : List ℕ) (web : Web) (routers router : ℕ) → SettlesBoth (WritesLines page web routers router)
router_lines_settled page web routers router = writing_settled _ _
