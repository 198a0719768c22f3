-- For every choice of view by router and decision number, some list of N − 1 bytes gives the same path.
-- Assumes nothing.
use mathlib.Core.Path.{◌≡◌, refl, ◌∙◌, ap}
use mathlib.Core.List.{List, map}
use Prim.Native.Nat.{ℕ, suc, ◌+◌, ◌≤◌, ◌<◌}
use native.Mathlib.Nat.{add-zero, zero-add}
use native.Mathlib.Omega.{arith}
use lib.Dec.{eqb}
use lib.ListN.{length, get_or}
use Rattle.rules.specs.Words.{pick, All, below}
use Rattle.rules.specs.Entries.{Entry, entry_by}
use Rattle.rules.specs.Paths.{View, old_view, new_view, Choice, listed, Path, Site, entry_at}
use Rattle.rules.specs.Demand3.{Follows, delivers, discards, has_none, loses, crosses, decisions}
use Rattle.rules.proofs.Basics.{length_values, value_at, All-values}
use Rattle.rules.proofs.Entries.{home_delivers, delivers_home}
use Rattle.rules.proofs.LoopFree.{deciders_suc}

-- ---- choices that agree at every decision give one answer

module _ (site : Site) (choice choice' : Choice) where
  abbrev Agree : ℕ → Path → Type 0
  Agree n path = (m : ℕ) → m < decisions path → choice' (get_or path.trace m 255) (n + m) ≡ choice (get_or path.trace m 255) (n + m)

  -- the router that the packet stands at decides alike
  alike : (n i j : ℕ) {e : Entry} → entry_at site choice n i j ≡ e → choice' i (n + 0) ≡ choice i (n + 0) → entry_at site choice' n i j ≡ e
  alike n i j q e =
      let e' : choice' i n ≡ choice i n = rw (add-zero n) at e in
      ap (λ v. entry_by (site.rules v) i j site.destination) e' ∙ q

  pub same_views : {n i j : ℕ} {path : Path} → Follows site choice n i j path → Agree n path → Follows site choice' n i j path
  same_views (delivers {n} {i} {j} e) a =
      delivers (home_delivers (site.rules (choice' i n)) i j site.destination (delivers_home (site.rules (choice i n)) i j site.destination e))
  same_views (discards {n} {i} {j} e) a = discards (alike n i j e (a 0 (omega arith)))
  same_views (has_none {n} {i} {j} e) a = has_none (alike n i j e (a 0 (omega arith)))
  same_views (loses {n} {i} {j} e c) a = loses (alike n i j e (a 0 (omega arith))) c
  same_views (crosses {n} {i} {j} {k} {onward = rest} e c r) a =
      let s = deciders_suc rest.outcome rest.hops in
      crosses (alike n i j e (a 0 (omega arith))) c (same_views r (λ m l. rw (shift m) (a (suc m) (omega arith))))
    where
      shift : (m : ℕ) → suc n + m ≡ n + suc m
      shift m = omega arith

-- ---- the list

abbrev view_byte : View → ℕ
view_byte old_view = 0
view_byte new_view = 1

view_byte_small : (v : View) → view_byte v ≤ 1
view_byte_small old_view = omega arith
view_byte_small new_view = omega arith

-- byte n is the view that the n-th router of the trace used
pub views_of : Choice → ℕ → List ℕ → List ℕ
views_of choice m trace = map (λ n. view_byte (choice (get_or trace n 255) n)) (below m)

pub views_length : (choice : Choice) (m : ℕ) (trace : List ℕ) → length (views_of choice m trace) ≡ m
unfolding views_of
views_length choice m trace = length_values _ m

pub views_good : (choice : Choice) (m : ℕ) (trace : List ℕ) → All (λ v. v ≤ 1) (views_of choice m trace)
unfolding views_of
views_good choice m trace = All-values _ (λ v. v ≤ 1) (λ n. view_byte_small (choice (get_or trace n 255) n)) (below m)

-- it says the view that was used
views_say : (choice : Choice) (m : ℕ) (trace : List ℕ) (i n : ℕ) → n < m → listed (views_of choice m trace) i n ≡ choice (get_or trace n 255) n
unfolding listed views_of
views_say choice m trace i n h =
    rw (value_at (λ n. view_byte (choice (get_or trace n 255) n)) m n 0 h) (go (choice (get_or trace n 255) n))
  where
    go : (v : View) → pick (eqb (view_byte v) 1) new_view old_view ≡ v
    go old_view = refl
    go new_view = refl

-- a list of m bytes gives the path of a choice whose decisions are m at most
pub listed_follows : (site : Site) (choice : Choice) (j i m : ℕ) {path : Path} → Follows site choice 0 i j path → decisions path ≤ m
    → Follows site (listed (views_of choice m path.trace)) 0 i j path
listed_follows site choice j i m {path} f h =
    same_views site choice (listed (views_of choice m path.trace)) f (λ k l. rw (zero-add k) (views_say choice m path.trace (get_or path.trace k 255) k (omega arith)))
