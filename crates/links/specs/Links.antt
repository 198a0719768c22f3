-- The link at a place of a table, and where a link reader starts.
use Rattle.std.specs.Prelude.{◌≡◌, Bool, ◌&&◌, List, ℕ, ◌+◌, ◌*◌, length, drop, Option, Some, None}
use Rattle.rules.specs.Words.{◌=?◌, ◌≤?◌, pick}
use Rattle.rules.specs.Layout.{tag_link}
use Rattle.rules.specs.Table.{byte, two_bytes, link_of, read, number_of}
use Rattle.rules.specs.Demand1.{IsAccepted}
use Rattle.rules.specs.LinkQuestion.{NextLink, no_more, link_answer}
use Rattle.tables.specs.Readings.{links_start}
use Rattle.links.specs.declared.Link.{Link}

-- a link's record stands whole at a place: all its seven bytes, its tag, its length
unfoldable pub link_there : List ℕ → ℕ → Bool
link_there bytes place = place + 7 ≤? length bytes && byte bytes place =? tag_link && two_bytes bytes (place + 1) =? 4

-- the link whose record stands at a place, or "no more"
unfoldable pub link_at : List ℕ → ℕ → NextLink
link_at bytes place = pick (link_there bytes place) (record { more = 1; link = link_of (drop (place + 3) bytes) }) no_more

-- the place behind it; where there is none, the same place
unfoldable pub behind : List ℕ → ℕ → ℕ
behind bytes place = pick (link_there bytes place) (place + 7) place

-- where a reader starts: at the first link; of a refused table at its end, where no link stands
unfoldable pub reader_start : List ℕ → ℕ
reader_start bytes = pick (number_of (read bytes) =? 0) (links_start bytes) (length bytes)

-- the numbers of each case
unfoldable pub next_numbers : Option Link → NextLink
next_numbers (Some l) = record { more = 1; link = record { a = l.a; b = l.b; weight = l.weight } }
next_numbers None = no_more

-- the place behind the link that is told; where none is told, the same place
unfoldable pub place_in : ℕ → Option Link → ℕ
place_in place (Some l) = l.behind
place_in place None = place

-- what is told at a place: the link whose record stands there, and the place behind it
abbrev pub Tells : List ℕ → ℕ → Option Link → Type 0
Tells bytes place r = (next_numbers r ≡ link_at bytes place) × (place_in place r ≡ behind bytes place)

-- the same of link i of those that start at a place
abbrev pub TellsByNumber : List ℕ → ℕ → ℕ → Option Link → Type 0
TellsByNumber bytes start i r = Tells bytes (start + 7 * i) r

-- From where an accepted table's links start, link i stands 7 × i bytes further on; behind the last there is none. (proofs/Stand)
abbrev pub LinksByNumber : Type 0
LinksByNumber = (bytes : List ℕ) → IsAccepted bytes → (i : ℕ) → link_at bytes (links_start bytes + 7 * i) ≡ link_answer bytes i
