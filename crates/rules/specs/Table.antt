-- Judging a byte string: it is accepted and says a table, or it is refused by one of the numbers 1 to 7, with a place.
use Rattle.std.specs.Prelude.{Bool, true, false, ◌&&◌, ◌||◌, not, List, [], ◌∷◌, map, ℕ, zero, suc, ◌+◌, ◌*◌, length, get_or, take, drop}
use Rattle.rules.specs.Words.{◌=?◌, ◌<?◌, ◌≤?◌, pick, Line, ◌when◌, first◌otherwise◌, every, those}
use Rattle.rules.specs.Layout.{Name, Link, Table, tag_routers, tag_name, tag_link, tag_end}

-- the byte at place k, and the two bytes from there on, high byte first; 0 stands for what is not there
abbrev pub byte : List ℕ → ℕ → ℕ
byte bytes k = get_or bytes k 0

abbrev pub two_bytes : List ℕ → ℕ → ℕ
two_bytes bytes k = byte bytes k * 256 + byte bytes (k + 1)

-- ---- records

-- a record as it stands in a table; `place` is where it starts
pub record Record : Type 0 where
  pub place : ℕ
  pub tag : ℕ
  pub contents : List ℕ

-- what a name's record says, and what a link's contents say
abbrev pub name_of : Record → Name
name_of r = record { router = byte r.contents 0; place = r.place + 4; bytes = drop 1 r.contents }

abbrev pub link_of : List ℕ → Link
link_of contents = record { a = byte contents 0; b = byte contents 1; weight = two_bytes contents 2 }

-- ---- what is asked of one record: its tag, its length, its contents, its order

unfoldable pub known_tag : ℕ → Bool
known_tag tag = (tag =? tag_routers) || (tag =? tag_name) || (tag =? tag_link) || (tag =? tag_end)

unfoldable pub length_allowed : ℕ → ℕ → Bool
length_allowed tag len =
    first (len =? 1) when (tag =? tag_routers)
    ∷ (2 ≤? len && len ≤? 17) when (tag =? tag_name)
    ∷ (len =? 4) when (tag =? tag_link)
    ∷ (len =? 0) when (tag =? tag_end)
    ∷ []
    otherwise false

unfoldable pub routers_fit : ℕ → Bool
routers_fit n = 1 ≤? n && n ≤? 64

unfoldable pub name_byte : ℕ → Bool
name_byte c = 0x21 ≤? c && c ≤? 0x7E

unfoldable pub name_fits : ℕ → ℕ → List ℕ → Bool
name_fits n router bytes = router <? n && every name_byte bytes

unfoldable pub link_fits : ℕ → Link → Bool
link_fits n l = l.a <? n && l.b <? n && l.a <? l.b && 1 ≤? l.weight && l.weight ≤? 65535

-- the contents of a record are in range, in a table of n routers; 4 is given where they are not
unfoldable pub contents_fit : ℕ → ℕ → List ℕ → Bool
contents_fit n tag contents =
    first routers_fit (byte contents 0) when (tag =? tag_routers)
    ∷ name_fits n (byte contents 0) (drop 1 contents) when (tag =? tag_name)
    ∷ link_fits n (link_of contents) when (tag =? tag_link)
    ∷ []
    otherwise true

-- what orders the records of one tag: the router of a name, the pair (a, b) of a link as one number of two bytes
unfoldable pub key : ℕ → List ℕ → ℕ
key tag contents = first byte contents 0 when (tag =? tag_name) ∷ two_bytes contents 0 when (tag =? tag_link) ∷ [] otherwise 0

-- ---- what is kept of the records before: N, the last tag, the last router or pair, the number of links

-- before the first record all are 0
pub record Kept : Type 0 where
  pub routers : ℕ
  pub tag : ℕ
  pub last : ℕ
  pub links : ℕ

abbrev pub nothing_kept : Kept
nothing_kept = record { routers = 0; tag = 0; last = 0; links = 0 }

unfoldable pub keep : Kept → Record → Kept
keep kept r = record {
  routers = pick (r.tag =? tag_routers) (byte r.contents 0) kept.routers;
  tag = r.tag;
  last = key r.tag r.contents;
  links = kept.links + pick (r.tag =? tag_link) 1 0;
}

-- 2: unknown tag, first tag not 0x01, a second 0x01, or a tag below the one before
unfoldable pub bad_tag : Kept → ℕ → Bool
bad_tag kept tag =
    not (known_tag tag) || (kept.tag =? 0 && not (tag =? tag_routers)) || (0 <? kept.tag && tag =? tag_routers) || tag <? kept.tag

-- 5: name or link not above the one before it
unfoldable pub not_above : Kept → ℕ → List ℕ → Bool
not_above kept tag contents = (tag =? tag_name || tag =? tag_link) && tag =? kept.tag && key tag contents ≤? kept.last

-- 6: a 257th link
unfoldable pub too_many : Kept → ℕ → Bool
too_many kept tag = tag =? tag_link && 256 ≤? kept.links

-- ---- the reading step

-- the next record and where it ends, or a number and a place
pub data Step : Type 0 where
  good : Record → ℕ → Step
  bad : ℕ → ℕ → Step

-- the record that begins the bytes that remain, whose contents are a part of their own
abbrev pub record_in : ℕ → List ℕ → Record
record_in place remaining =
    record { place = place; tag = byte remaining 0; contents = take (two_bytes remaining 1) (drop 3 remaining) }

-- what refuses it. Within one record the order is: header cut (1), tag (2), length (3), contents cut (1), 4, 5, 6.
abbrev pub step_refusals : Kept → ℕ → List ℕ → List (Line Step)
step_refusals kept place remaining =
    let r = record_in place remaining in
    let len = two_bytes remaining 1 in
    bad 1 place when (length remaining <? 3)
    ∷ bad 2 place when bad_tag kept r.tag
    ∷ bad 3 place when not (length_allowed r.tag len)
    ∷ bad 1 place when (length remaining <? 3 + len)
    ∷ bad 4 place when not (contents_fit kept.routers r.tag r.contents)
    ∷ bad 5 place when not_above kept r.tag r.contents
    ∷ bad 6 place when too_many kept r.tag
    ∷ []

unfoldable pub step : Kept → ℕ → List ℕ → Step
step kept place remaining =
    first step_refusals kept place remaining
    otherwise good (record_in place remaining) (place + 3 + two_bytes remaining 1)

-- ---- judging

-- the records of a table and where it ends, or a number and a place
pub data Judged : Type 0 where
  accepted : List Record → ℕ → Judged
  refused : ℕ → ℕ → Judged

-- a record, and what those that follow it are judged to be
abbrev pub followed_by : Record → Judged → Judged
followed_by r (accepted rs end) = accepted (r ∷ rs) end
followed_by r (refused number place) = refused number place

-- Records are judged in file order, up to the end record, and the first bad one decides. `most` bounds their number: each takes 3 bytes at least,
-- so it never runs out where it is above the number of bytes that remain.
unfoldable pub judge_from : ℕ → Kept → ℕ → List ℕ → Judged
judge_from zero kept place remaining = refused 1 place
judge_from (suc most) kept place remaining =
    elim (step kept place remaining) [
      | good r end ↦
          elim (r.tag =? tag_end) [
            | true ↦ accepted (r ∷ []) end
            | false ↦ followed_by r (judge_from most (keep kept r) end (drop (3 + two_bytes remaining 1) remaining))
          ]
      | bad number place ↦ refused number place
    ]

-- from the first record to the end record; what stands behind it is not looked at
unfoldable pub judge : List ℕ → Judged
judge bytes = judge_from (suc (length bytes)) nothing_kept 0 bytes

-- 7: bytes behind the end record
abbrev pub nothing_behind : ℕ → Judged → Judged
nothing_behind len (accepted rs end) = pick (end <? len) (refused 7 end) (accepted rs end)
nothing_behind len (refused number place) = refused number place

-- a whole byte string: nothing may stand behind the end record
unfoldable pub read : List ℕ → Judged
read bytes = nothing_behind (length bytes) (judge bytes)

-- ---- what a byte string says

-- the number that refuses, 0 for none, and its place
abbrev pub number_of : Judged → ℕ
number_of (accepted rs end) = 0
number_of (refused number place) = number

abbrev pub place_of : Judged → ℕ
place_of (accepted rs end) = 0
place_of (refused number place) = place

-- a refused byte string has no records
abbrev pub records_of : Judged → List Record
records_of (accepted rs end) = rs
records_of (refused number place) = []

-- N is in the first record
unfoldable pub routers_of : List Record → ℕ
routers_of [] = 0
routers_of (r ∷ rs) = byte r.contents 0

unfoldable pub table_of : List Record → Table
table_of rs = record {
  routers = routers_of rs;
  names = map name_of (those (λ r. r.tag =? tag_name) rs);
  links = map (λ r. link_of r.contents) (those (λ r. r.tag =? tag_link) rs);
}

-- what a byte string says; a refused one says nothing: no router, no name, no link
unfoldable pub says : List ℕ → Table
says bytes = table_of (records_of (read bytes))
