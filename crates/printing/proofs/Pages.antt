-- What is printed so far grows by a page for each router.
-- Assumes nothing.
use Rattle.std.proofs.Common.{◌≡◌, ℕ, zero, suc, ◌+◌, ◌-◌, ◌<◌, ◌≤◌, refl, le_refl, List, [], ◌∷◌, ◌++◌, take, drop, length, sym, ap, ap₂, ◌∙◌, append_assoc, append-nil, add-one, arith}
use Rattle.std.specs.Prelude.{Ok, Err}
use Rattle.std.proofs.Math.Seq.{take-append_seam}
use mathlib.Core.List.{map, flatten}
use Rattle.rules.specs.Words.{below}
use Rattle.rules.proofs.Basics.{values_more}
use Rattle.tables.specs.declared.Outline.{Outline}
use Rattle.refusals.specs.declared.Refusal.{Refusal}
use Rattle.refusals.specs.Refusals.{number_of}
use Rattle.webs.specs.Webs.{web_weight, LaysOut}
use Rattle.webs.specs.declared.Web.{Web}
use Rattle.rules.specs.Listing.{header, refusal_line}
use Rattle.lines.specs.Lines.{Writes, WritesLines, lines_over}
use Rattle.lines.proofs.Others.{flatten_append}
use Rattle.printing.specs.Listings.{page_of, pieces}

-- the header, and the pages of the routers below n
unfoldable pub pages_below : List ℕ → Outline → ℕ → List ℕ
pages_below table t n = flatten (header ∷ map (page_of table t) (below n))

pub no_pages : (table : List ℕ) (t : Outline) → header ≡ pages_below table t 0
unfolding pages_below below flatten
no_pages table t = sym (append-nil header)

pub page_more : (table : List ℕ) (t : Outline) (n : ℕ) → pages_below table t n ++ page_of table t n ≡ pages_below table t (n + 1)
unfolding pages_below flatten
page_more table t n =
    append_assoc header (flatten before) page
    ∙ ap (λ l. header ++ l) (ap (λ l. flatten before ++ l) (sym (append-nil page)) ∙ sym (flatten_append before (page ∷ [])))
    ∙ ap (λ l. header ++ flatten l) (sym (values_more (page_of table t) n) ∙ ap (λ m. map (page_of table t) (below m)) (sym (add-one n)))
  where
    before : List (List ℕ)
    before = map (page_of table t) (below n)

    page : List ℕ
    page = page_of table t n

-- the bytes that were written at the start of a page are its first ones
pub first_bytes : {page bytes page' : List ℕ} {r : ℕ} → Writes page bytes r page' → take r page' ≡ bytes
first_bytes {page} {bytes} {page'} {r} w = ap₂ take w.counted w.written ∙ take-append_seam bytes (drop (length bytes) page)

-- over the table's web they are a router's page
pub page_bytes : (table : List ℕ) (t : Outline) (router : ℕ) {page page' : List ℕ} {web : Web} {r : ℕ}
    → LaysOut table t web → WritesLines page web t.routers router r page'
    → take r page' ≡ page_of table t router
unfolding page_of
page_bytes table t router laid w = first_bytes w ∙ ap (λ v. lines_over (web_weight v) t.routers router) laid

-- all pages and the header in front of them are what is written of an accepted table
pub all_pages : (table : List ℕ) (t : Outline) (n : ℕ) → n ≤ t.routers → t.routers ≤ n → pages_below table t n ≡ flatten (pieces table (Ok t))
unfolding pages_below pieces
all_pages table t n h k = let same : n ≡ t.routers = omega arith in ap (λ m. flatten (header ∷ map (page_of table t) (below m))) same

-- of a refused one it is the refusal's line alone
pub refusal_alone : (table : List ℕ) (r : Refusal) → refusal_line (number_of r.reason) r.place ≡ flatten (pieces table (Err r))
unfolding pieces flatten
refusal_alone table r = sym (append-nil _)

-- more pages stand behind those of the routers below m
pages_behind : (table : List ℕ) (t : Outline) (m j n : ℕ) → n ≡ m + j → (rest : List ℕ) × (pages_below table t n ≡ pages_below table t m ++ rest)
pages_behind table t m zero n e = ([], ap (pages_below table t) {y = m} (omega arith) ∙ sym (append-nil _))
pages_behind table t m (suc j) n e =
    let page = page_of table t (m + j) in
    let before = pages_behind table t m j (m + j) refl in (
      before.0 ++ page,
      ap (pages_below table t) {y = m + j + 1} (omega arith) ∙ sym (page_more table t (m + j)) ∙ ap (λ l. l ++ page) before.1 ∙ append_assoc _ _ page,
    )

-- what is written of an accepted table is the pages of the routers below one of its own, this one's page, and what stands behind it
pub page_within : (table : List ℕ) (t : Outline) (router : ℕ) → router < t.routers
    → (rest : List ℕ) × (flatten (pieces table (Ok t)) ≡ pages_below table t router ++ (page_of table t router ++ rest))
page_within table t router h =
    let page = page_of table t router in
    let more = pages_behind table t (router + 1) (t.routers - (router + 1)) t.routers (omega arith) in (
      more.0,
      sym (all_pages table t t.routers (le_refl _) (le_refl _))
          ∙ more.1
          ∙ ap (λ l. l ++ more.0) (sym (page_more table t router))
          ∙ append_assoc _ page more.0,
    )

-- or the header, and what stands behind it
pub header_first : (table : List ℕ) (t : Outline) → flatten (pieces table (Ok t)) ≡ header ++ flatten (map (page_of table t) (below t.routers))
unfolding pieces flatten
header_first table t = refl
