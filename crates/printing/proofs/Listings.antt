-- The pieces that are printed are the listing.
-- Assumes nothing.
use mathlib.Core.Path.{◌≡◌, refl, sym, ◌∙◌, ap, ap₂}
use mathlib.Core.Bool.{Bool, not}
use mathlib.Core.List.{List, [], ◌∷◌, ◌++◌, map, flatten}
use Prim.Native.Nat.{ℕ, ◌<◌}
use native.Mathlib.Omega.{arith}
use lib.ListN.{get_or}
use Rattle.std.specs.Prelude.{Ok, Err}
use Rattle.rules.specs.Words.{◌=?◌, those, below, All}
use Rattle.rules.specs.Table.{Judged, accepted, refused, read, number_of, place_of, records_of, table_of, says}
use Rattle.rules.specs.Costs.{cost, no_cost}
use Rattle.rules.specs.NextHops.{next_hops}
use Rattle.rules.specs.Listing.{line_of, line, lines_from, lines, header, refusal_line, listing_lines, listing}
use Rattle.rules.specs.Demand1.{IsAccepted}
use Rattle.rules.specs.Answers.{of_table}
use Rattle.rules.proofs.Basics.{All-map, all_those, value_at}
use Rattle.rules.proofs.Acceptance.{obeys}
use Rattle.rules.proofs.LeastCost.{costs_hold_both_ways}
use Rattle.rules.proofs.Refusals.{table_refusals}
use Rattle.tables.specs.Readings.{outline_of}
use Rattle.tables.specs.declared.Outline.{Outline}
use Rattle.refusals.specs.Refusals.{number_of as number_of_reason, refusal_told}
use Rattle.tables.proofs.Asked.{reading_accepted, reading_refused, own_routers, few_routers}
use Rattle.webs.specs.Webs.{web_weight, web_at}
use Rattle.search.specs.Search.{found_from}
use Rattle.search.specs.declared.Found.{Found}
use Rattle.search.proofs.OfTable.{found_costs, found_sets}
use Rattle.lines.specs.Lines.{lines_found, lines_over}
use Rattle.printing.specs.Listings.{page_of, pieces, PrintsTheListing}
use Rattle.lines.proofs.Others.{flatten_append}

-- functions that agree on a list make the same of it
map_same : {A : Type 0} (f g : ℕ → A) (xs : List ℕ) → All (λ x. f x ≡ g x) xs → map f xs ≡ map g xs
map_same f g [] h = refl
map_same f g (x ∷ xs) h = ap₂ (λ y ys. y ∷ ys) h.0 (map_same f g xs h.1)

-- lists of lists joined one by one, or all at once
joined_each : (f : ℕ → List (List ℕ)) (ks : List ℕ) → flatten (map (λ k. flatten (f k)) ks) ≡ flatten (flatten (map f ks))
unfolding flatten
joined_each f [] = refl
joined_each f (k ∷ ks) = ap (λ l. flatten (f k) ++ l) (joined_each f ks) ∙ sym (flatten_append (f k) (flatten (map f ks)))

module _ (table : List ℕ) (a : IsAccepted table) (t : Outline) (q : t ≡ outline_of table) where
  n : t.routers ≡ (says table).routers
  n = own_routers table t q

  abbrev found : ℕ → Found
  found i = found_from (web_weight (web_at table t)) i

  -- what a search finds from router i are its own costs and sets
  cost_found : (i d : ℕ) → d < 64 → get_or (found i).costs d no_cost ≡ cost (says table) i d
  unfolding found_from
  cost_found i d h =
      ap (λ l. get_or l d no_cost) (found_costs table a t q (web_at table t) refl i)
      ∙ value_at (λ k. cost (says table) k i) 64 d no_cost h
      ∙ costs_hold_both_ways (says table) (obeys table a) d i

  set_found : (i d : ℕ) → d < 64 → get_or (found i).sets d 0 ≡ next_hops (says table) i d
  set_found i d h =
      ap (λ l. get_or l d 0) (found_sets table a t q (web_at table t) refl i (found i) refl)
      ∙ value_at (next_hops (says table) i) 64 d 0 h

  pub own_page : (i : ℕ) → page_of table t i ≡ flatten (lines_from (says table) i)
  unfolding page_of lines_over lines_found lines_from line
  own_page i =
      ap (λ m. flatten (map by_search (those other (below m)))) (omega (arith, few_routers table a t q))
      ∙ ap flatten (map_same by_search (line (says table) i) (those other (below t.routers)) same)
      ∙ ap (λ m. flatten (map (line (says table) i) (those other (below m)))) n
    where
      other : ℕ → Bool
      other d = not (d =? i)

      by_search : ℕ → List ℕ
      by_search d = line_of i d (get_or (found i).costs d no_cost) (get_or (found i).sets d 0)

      same : All (λ d. by_search d ≡ line (says table) i d) (those other (below t.routers))
      same =
          All-map
          (λ d h. let b : d < 64 = omega (arith, h.1, few_routers table a t q) in ap₂ (line_of i d) (cost_found i d b) (set_found i d b))
          (those other (below t.routers))
          (all_those other t.routers)

  own_pages : flatten (map (page_of table t) (below t.routers)) ≡ flatten (lines (says table))
  unfolding lines
  own_pages =
      ap₂ (λ (f : ℕ → List ℕ) m. flatten (map f (below m))) (λ z i. own_page i z) n
      ∙ joined_each (lines_from (says table)) (below (says table).routers)

pub prints_the_listing : PrintsTheListing
unfolding pieces listing listing_lines flatten says
prints_the_listing table (Ok t) p = go (read table) refl
  where
    told : IsAccepted table × (t ≡ outline_of table)
    told = reading_accepted table t p

    go : (j : Judged) → read table ≡ j → header ++ flatten (map (page_of table t) (below t.routers)) ≡ flatten (listing_lines j)
    go (accepted rs end) e = ap (λ l. header ++ l) (own_pages table told.0 t told.1 ∙ ap (λ j. flatten (lines (table_of (records_of j)))) e)
    go (refused number place) e = absurd (omega (arith, sym (ap number_of e) ∙ told.0, table_refusals table number place e))
prints_the_listing table (Err r) p = go (read table) refl
  where
    told : (¬ IsAccepted table) × (refusal_told r ≡ of_table 0 table)
    told = reading_refused table r p

    go : (j : Judged) → read table ≡ j → refusal_line (number_of_reason r.reason) r.place ++ [] ≡ flatten (listing_lines j)
    go (accepted rs end) e = absurd (told.0 (ap number_of e))
    go (refused m k) e =
        ap₂ (λ m k. refusal_line m k ++ []) (ap (λ f. f.number) told.1 ∙ ap number_of e) (ap (λ f. f.place) told.1 ∙ ap place_of e)
