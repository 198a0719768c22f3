-- When each of the numbers 1 to 7 is given, in the words of document 01's list, and that the first bad record decides. `Table.read` is shown to refuse
-- exactly so (`Demand1.InListedCases`).
use Rattle.std.specs.Prelude.{◌≡◌, ◌≢◌, ◌⊎◌, List, [], ◌∷◌, ℕ, ◌+◌, ◌≤◌, ◌<◌, length, take, drop}
use Rattle.rules.specs.Words.{◌=?◌, pick, tally, Some}
use Rattle.rules.specs.Layout.{tag_routers, tag_name, tag_link, tag_end}
use Rattle.rules.specs.Table.{byte, two_bytes, Record, record_in}

-- ---- what is wrong with a record, behind the records before it, which stand with the nearest first

-- 2: unknown tag, first tag not 0x01, a second 0x01, or a tag below the one before
pub data BadTag : List Record → ℕ → Type 0 where
  unknown : {before : List Record} {tag : ℕ} → tag ≢ tag_routers → tag ≢ tag_name → tag ≢ tag_link → tag ≢ tag_end → BadTag before tag
  first_not_routers : {tag : ℕ} → tag ≢ tag_routers → BadTag [] tag
  second_routers : {before : List Record} → Some (λ r. r.tag ≡ tag_routers) before → BadTag before tag_routers
  below_one_before : {r : Record} {before : List Record} {tag : ℕ} → tag < r.tag → BadTag (r ∷ before) tag

-- 3 is given for every length but these
pub data Allowed : ℕ → ℕ → Type 0 where
  for_routers : Allowed tag_routers 1
  for_name : {len : ℕ} → 2 ≤ len → len ≤ 17 → Allowed tag_name len
  for_link : Allowed tag_link 4
  for_end : Allowed tag_end 0

-- x is not one of the numbers from low to high
abbrev pub Outside : ℕ → ℕ → ℕ → Type 0
Outside low high x = (x < low) ⊎ (high < x)

-- 4: N, router, weight or name byte out of range, or a not below b; by the tag and the contents, in a table of n routers
pub data OutOfRange (n : ℕ) : ℕ → List ℕ → Type 0 where
  routers_out : {c : List ℕ} → Outside 1 64 (byte c 0) → OutOfRange n tag_routers c
  named_router_out : {c : List ℕ} → n ≤ byte c 0 → OutOfRange n tag_name c
  name_byte_out : {c : List ℕ} → Some (Outside 0x21 0x7E) (drop 1 c) → OutOfRange n tag_name c
  a_out : {c : List ℕ} → n ≤ byte c 0 → OutOfRange n tag_link c
  b_out : {c : List ℕ} → n ≤ byte c 1 → OutOfRange n tag_link c
  weight_out : {c : List ℕ} → Outside 1 65535 (two_bytes c 2) → OutOfRange n tag_link c
  a_not_below_b : {c : List ℕ} → byte c 1 ≤ byte c 0 → OutOfRange n tag_link c

-- the pair (a, b) is above the pair (a', b')
abbrev pub PairAbove : ℕ → ℕ → ℕ → ℕ → Type 0
PairAbove a b a' b' = (a' < a) ⊎ ((a ≡ a') × (b' < b))

-- 5: name or link not above the one before it
pub data NotAbove : List Record → ℕ → List ℕ → Type 0 where
  name_not_above : {r : Record} {before : List Record} {c : List ℕ} → r.tag ≡ tag_name
      → byte c 0 ≤ byte r.contents 0 → NotAbove (r ∷ before) tag_name c
  link_not_above : {r : Record} {before : List Record} {c : List ℕ} → r.tag ≡ tag_link
      → ¬ PairAbove (byte c 0) (byte c 1) (byte r.contents 0) (byte r.contents 1) → NotAbove (r ∷ before) tag_link c

-- 6: a 257th link
abbrev pub Link257 : List Record → ℕ → Type 0
Link257 before tag = (tag ≡ tag_link) × (256 ≤ tally (λ r. r.tag =? tag_link) before)

-- N, which the record with tag 0x01 tells
unfoldable pub routers_told : List Record → ℕ
routers_told [] = 0
routers_told (r ∷ before) = pick (r.tag =? tag_routers) (byte r.contents 0) (routers_told before)

-- ---- the first case that applies

-- a number, and when it is given
pub record Given : Type 1 where
  pub number : ℕ
  pub if : Type 0

infix 68 ◌given_if◌
abbrev pub ◌given_if◌ : ℕ → Type 0 → Given
number given_if applies = record { number = number; if = applies }

-- the number is that of the first case that applies
abbrev pub FirstGiven : List Given → ℕ → Type 0
FirstGiven [] number = ⊥
FirstGiven (c ∷ cs) number = (c.if × (number ≡ c.number)) ⊎ ((¬ c.if) × FirstGiven cs number)

-- no case applies
abbrev pub NoneGiven : List Given → Type 0
NoneGiven [] = Unit {0}
NoneGiven (c ∷ cs) = (¬ c.if) × NoneGiven cs

-- Of the record that begins the bytes `left`. Within one record the order is: header cut (1), tag (2), length (3), contents cut (1), 4, 5, 6.
abbrev pub listed_cases : List Record → List ℕ → List Given
listed_cases before left =
    let tag = byte left 0 in
    let len = two_bytes left 1 in
    let contents = take len (drop 3 left) in
    1 given_if (length left < 3)
    ∷ 2 given_if BadTag before tag
    ∷ 3 given_if (¬ Allowed tag len)
    ∷ 1 given_if (length left < 3 + len)
    ∷ 4 given_if OutOfRange (routers_told before) tag contents
    ∷ 5 given_if NotAbove before tag contents
    ∷ 6 given_if Link257 before tag
    ∷ []

-- ---- records in file order

-- every record before this place is good, and none of them is the end record; they stand with the nearest first
pub data GoodBefore (bytes : List ℕ) : ℕ → List Record → Type 0 where
  at_start : GoodBefore bytes 0 []
  one_more : {place : ℕ} {before : List Record} → GoodBefore bytes place before
      → NoneGiven (listed_cases before (drop place bytes)) → byte (drop place bytes) 0 ≢ tag_end
      → GoodBefore bytes (place + 3 + two_bytes (drop place bytes) 1) (record_in place (drop place bytes) ∷ before)

-- the record at this place is the first bad one, and this is its number
pub record FirstBad (bytes : List ℕ) (number place : ℕ) : Type 0 where
  pub before : List Record
  pub good_before : GoodBefore bytes place before
  pub decides : FirstGiven (listed_cases before (drop place bytes)) number

-- every record is good, and the last of them, which is the end record, ends at this place
pub record EndsAt (bytes : List ℕ) (end : ℕ) : Type 0 where
  pub place : ℕ
  pub before : List Record
  pub good_before : GoodBefore bytes place before
  pub good : NoneGiven (listed_cases before (drop place bytes))
  pub is_end : byte (drop place bytes) 0 ≡ tag_end
  pub behind : end ≡ place + 3

-- Refused by a number at a place: by the first bad record, at its start; or by 7, where bytes stand behind the end record, at the first of them.
abbrev pub RefusedAt : List ℕ → ℕ → ℕ → Type 0
RefusedAt bytes number place = FirstBad bytes number place ⊎ ((number ≡ 7) × EndsAt bytes place × (place < length bytes))
