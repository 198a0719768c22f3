-- What demand 1 says of tables, with demand 2's last clause, as statements: they are accepted exactly by the layout, refused by 1 to 7, and names never
-- count. What it says of each question stands in that question's file, and of any list of refusals in `Answers`. Each statement is proved in the
-- file of `proofs/` that its heading names.
use Rattle.std.specs.Prelude.{◌≡◌, ◌≢◌, ◌⊎◌, ◌↔◌, List, ℕ, ◌≤◌, length, take}
use Rattle.rules.specs.Layout.{Bytes, Name, Obeys, Table, written}
use Rattle.rules.specs.Table.{number_of, place_of, read, refused, says}
use Rattle.rules.specs.ListedCases.{EndsAt, RefusedAt}
use Rattle.rules.specs.Links.{weight}
use Rattle.rules.specs.Pairs.{differing, too_different}
use Rattle.rules.specs.Listing.{listing}

-- ---- acceptance (proofs/Acceptance)

abbrev pub IsAccepted : List ℕ → Type 0
IsAccepted bytes = number_of (read bytes) ≡ 0

-- the bytes are accepted and say t
abbrev pub Accepted : List ℕ → Table → Type 0
Accepted bytes t = IsAccepted bytes × (says bytes ≡ t)

-- Tables are accepted exactly by the layout: bytes are accepted and say t exactly if t obeys the rules and the bytes are t as written.
abbrev pub AcceptedByLayout : Type 0
AcceptedByLayout = (bytes : List ℕ) (t : Table) → Bytes bytes → Accepted bytes t ↔ (Obeys t × (bytes ≡ written t))

-- whatever obeys the rules can be written, in bytes
abbrev pub Writable : Type 0
Writable = (t : Table) → Obeys t → Bytes (written t)

-- contents and bytes settle each other
abbrev pub ContentsSettle : Type 0
ContentsSettle =
    (bytes bytes' : List ℕ) (t t' : Table) → Bytes bytes → Bytes bytes' → Accepted bytes t → Accepted bytes' t' → (bytes ≡ bytes') ↔ (t ≡ t')

-- ---- refusals (proofs/ListedCases, proofs/Refusals)

-- a table is refused exactly in the listed cases,
abbrev pub InListedCases : Type 0
InListedCases = (bytes : List ℕ) (number place : ℕ) → (read bytes ≡ refused number place) ↔ RefusedAt bytes number place

-- and accepted exactly where every record is good up to an end record behind which nothing stands
abbrev pub InNoOthers : Type 0
InNoOthers = (bytes : List ℕ) → IsAccepted bytes ↔ EndsAt bytes (length bytes)

-- the place is one of the table or, where nothing remains, its length
abbrev pub PlacesWithin : Type 0
PlacesWithin = (bytes : List ℕ) (number place : ℕ) → read bytes ≡ refused number place → place ≤ length bytes

-- a table is refused by one of 1 to 7
abbrev pub TableRefusals : Type 0
TableRefusals = (bytes : List ℕ) (number place : ℕ) → read bytes ≡ refused number place → (1 ≤ number) × (number ≤ 7)

-- ---- number 8 (proofs/OneChange, proofs/Refusals)

-- a, b and i, k are the same two routers, either way round
abbrev pub SameEnds : ℕ → ℕ → ℕ → ℕ → Type 0
SameEnds a b i k = ((a ≡ i) × (b ≡ k)) ⊎ ((a ≡ k) × (b ≡ i))

-- any two pairs of routers whose weights differ are the same two routers
abbrev pub OneChange : (ℕ → ℕ → ℕ) → (ℕ → ℕ → ℕ) → Type 0
OneChange w w' = (i k a b : ℕ) → w i k ≢ w' i k → w a b ≢ w' a b → SameEnds a b i k

-- at most one link differs exactly if the weights differ between two routers only
abbrev pub DiffersExactly : Type 0
DiffersExactly = (old new : Table) → Obeys old → Obeys new → (differing old new ≤ 1) ↔ OneChange (weight old) (weight new)

-- no link differs exactly if every two routers have the same weight in both tables
abbrev pub NoneDiffers : Type 0
NoneDiffers = (old new : Table) → Obeys old → Obeys new → (differing old new ≡ 0) ↔ ((i k : ℕ) → weight old i k ≡ weight new i k)

-- names never count as a difference between tables
abbrev pub NamesNeverCount : Type 0
NamesNeverCount =
    (old new : Table) (ms ns : List Name)
    → too_different (record { routers = old.routers; names = ms; links = old.links }) (record { routers = new.routers; names = ns; links = new.links })
    ≡ too_different old new

-- ---- lengths (proofs/Lengths)

pub record Lengths (bytes : List ℕ) : Type 0 where
  pub longest : IsAccepted bytes → length bytes ≤ 3079
  pub place_near : place_of (read bytes) ≤ 3079
  -- the first 4,096 bytes of a longer input are refused with the same number and place
  pub same_reading : read (take 4096 bytes) ≡ read bytes
  pub same_listing : listing (take 4096 bytes) ≡ listing bytes

abbrev pub LengthsHold : Type 0
LengthsHold = (bytes : List ℕ) → Lengths bytes
