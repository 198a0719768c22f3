-- A web: the links of a table as an adjacency matrix, 64 rows of 64 weights (0: no link), and beside it each router's neighbours as a 64-bit number.
-- Every content of the two arrays means something.
use Rattle.std.specs.Prelude.{◌≡◌, List, [], ◌∷◌, map, ℕ, zero, suc, ◌+◌, ◌*◌, ◌/◌, ◌%◌, ◌^◌, ◌<◌, get_or, set}
use Rattle.std.specs.Int.Bits.{bit_or}
use Rattle.rules.specs.Words.{◌<?◌, pick, below}
use Rattle.rules.specs.Layout.{Link}
use Rattle.rules.specs.Table.{link_fits}
use Rattle.rules.specs.Links.{weight_in}
use Rattle.rules.specs.NextHops.{has, set_of}
use Rattle.tables.specs.declared.Outline.{Outline}
use Rattle.links.specs.Links.{link_at}
use Rattle.links.specs.declared.Link.{Link as LinkHere}
use Rattle.webs.specs.declared.Web.{Web}

-- ---- what a web says

-- the weight from i to k: what stands in row i, column k, where k is in i's set; 0 where there is no link
unfoldable pub weight_over : List ℕ → List ℕ → ℕ → ℕ → ℕ
weight_over near weights i k = pick (has (get_or near i 0) k) (get_or weights (64 * i + k) 0) 0

-- the same of a web
abbrev pub web_weight : Web → ℕ → ℕ → ℕ
web_weight web = weight_over web.near web.weights

-- ---- the web of given weights

unfoldable pub web_by : (ℕ → ℕ → ℕ) → Web
web_by w = record { near = map (λ i. set_of (λ k. 0 <? w i k) 64) (below 64); weights = map (λ z. w (z / 64) (z % 64)) (below 4096) }

-- of n records at the stride of 7 bytes from a place on, those that are links between two of 64 routers; the last one stands first, and so decides
unfoldable pub laid : List ℕ → ℕ → ℕ → List Link
laid bytes start zero = []
laid bytes start (suc n) =
    let l = (link_at bytes (start + 7 * n)).link in
    pick (link_fits 64 l) (l ∷ laid bytes start n) (laid bytes start n)

-- the web of the links that an outline tells of
unfoldable pub web_at : List ℕ → Outline → Web
web_at table t = web_by (weight_in (laid table t.start t.links))

-- r is that web
abbrev pub LaysOut : List ℕ → Outline → Web → Type 0
LaysOut table t r = r ≡ web_at table t

-- ---- one more link

-- a link as it is told, by its three numbers
abbrev pub numbers_of : LinkHere → Link
numbers_of l = record { a = l.a; b = l.b; weight = l.weight }

-- the two arrays with it; one that does not fit changes nothing
unfoldable pub near_with : Link → List ℕ → List ℕ
near_with l near =
    let one = set near l.a (bit_or (get_or near l.a 0) (2 ^ l.b)) in
    pick (link_fits 64 l) (set one l.b (bit_or (get_or one l.b 0) (2 ^ l.a))) near

unfoldable pub weights_with : Link → List ℕ → List ℕ
weights_with l weights =
    pick (link_fits 64 l) (set (set weights (64 * l.a + l.b) l.weight) (64 * l.b + l.a) l.weight) weights

-- the web with it
abbrev pub web_with : Link → Web → Web
web_with l web = record { near = near_with l web.near; weights = weights_with l web.weights }
