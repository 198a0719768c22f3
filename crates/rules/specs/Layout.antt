-- The table's bytes: what a table says, the rules that it obeys, and the bytes that say it.
use Rattle.std.specs.Prelude.{◌≡◌, ℕ, ◌+◌, ◌*◌, ◌/◌, ◌%◌, ◌≤◌, ◌<◌, length}
use mathlib.Core.List.{List, [], ◌∷◌, ◌++◌, map, flatten}
use Rattle.rules.specs.Words.{All, Rising}

-- ---- what a table says

-- the name of a router, and the place of the name's first byte in the table
pub record Name : Type 0 where
  pub router : ℕ
  pub place : ℕ
  pub bytes : List ℕ

-- a link between router a and router b, whose weight holds both ways
pub record Link : Type 0 where
  pub a : ℕ
  pub b : ℕ
  pub weight : ℕ

-- the routers are 0 to N − 1
pub record Table : Type 0 where
  pub routers : ℕ
  pub names : List Name
  pub links : List Link

-- ---- the rules

-- a name in a table of n routers: its router below n, 1 to 16 bytes, each 0x21 to 0x7E
pub record NameFits (n : ℕ) (m : Name) : Type 0 where
  pub router_below : m.router < n
  pub not_empty : 1 ≤ length m.bytes
  pub not_long : length m.bytes ≤ 16
  pub plain : All (λ c. (0x21 ≤ c) × (c ≤ 0x7E)) m.bytes

-- a link in a table of n routers: a < b < n, weight 1 to 65535
pub record LinkFits (n : ℕ) (l : Link) : Type 0 where
  pub ends_rise : l.a < l.b
  pub end_below : l.b < n
  pub weight_above_0 : 1 ≤ l.weight
  pub weight_fits : l.weight ≤ 65535

-- the pair (a, b) of a link as one number of two bytes, which rises as the pair does
abbrev pub pair_number : Link → ℕ
pair_number l = l.a * 256 + l.b

-- names follow each other from this place on, each behind three bytes of header and one of router
abbrev pub Placed : ℕ → List Name → Type 0
Placed at [] = Unit {0}
Placed at (m ∷ ms) = (m.place ≡ at + 4) × Placed (at + 4 + length m.bytes) ms

-- a table obeys the layout
pub record Obeys (t : Table) : Type 0 where
  pub some_routers : 1 ≤ t.routers
  pub few_routers : t.routers ≤ 64
  pub names_fit : All (NameFits t.routers) t.names
  pub names_rise : Rising (map (λ m. m.router) t.names)
  pub links_fit : All (LinkFits t.routers) t.links
  pub links_rise : Rising (map pair_number t.links)
  pub few_links : length t.links ≤ 256
  -- the places are those of the bytes below, where the names begin at place 4
  pub names_placed : Placed 4 t.names

-- the longest table: 4 bytes for the routers, 64 names of 20 bytes each, 256 links of 7 bytes each, and 3 bytes for the end
abbrev pub longest_table : ℕ
longest_table = 3079

-- ---- the bytes: one byte tag, two bytes length, high byte first, then the contents

-- every number is one byte
abbrev pub Bytes : List ℕ → Type 0
Bytes bytes = All (λ c. c < 256) bytes

abbrev pub tag_routers : ℕ
tag_routers = 0x01

abbrev pub tag_name : ℕ
tag_name = 0x02

abbrev pub tag_link : ℕ
tag_link = 0x04

abbrev pub tag_end : ℕ
tag_end = 0x7F

unfoldable pub record_bytes : ℕ → List ℕ → List ℕ
record_bytes tag contents = tag ∷ length contents / 256 ∷ length contents % 256 ∷ contents

unfoldable pub name_bytes : Name → List ℕ
name_bytes m = record_bytes tag_name (m.router ∷ m.bytes)

unfoldable pub link_bytes : Link → List ℕ
link_bytes l = record_bytes tag_link (l.a ∷ l.b ∷ l.weight / 256 ∷ l.weight % 256 ∷ [])

-- the routers, then names, then links, then the end
unfoldable pub written : Table → List ℕ
written t =
    record_bytes tag_routers (t.routers ∷ [])
    ++ flatten (map name_bytes t.names)
    ++ flatten (map link_bytes t.links)
    ++ record_bytes tag_end []
