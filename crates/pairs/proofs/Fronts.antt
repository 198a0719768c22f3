-- One walk along the links of two tables: what is left of each, what is counted so far, and one turn.
-- Assumes nothing.
use mathlib.Core.Path.{◌≡◌, refl, sym, ◌∙◌, ap}
use mathlib.Core.Logic.{◌≢◌}
use mathlib.Core.List.{List, [], ◌∷◌}
use Prim.Native.Nat.{ℕ, ◌+◌, ◌*◌, ◌≤◌, ◌<◌}
use native.Mathlib.Omega.{arith}
use Rattle.std.specs.Prelude.{Some, None}
use Rattle.rules.specs.Layout.{Link, LinkFits, pair_number}
use Rattle.rules.specs.Table.{says}
use Rattle.rules.specs.Demand1.{IsAccepted}
use Rattle.rules.specs.Pairs.{differing}
use Rattle.rules.proofs.Acceptance.{obeys}
use Rattle.links.specs.Links.{next_numbers, place_in, Tells}
use Rattle.tables.specs.Readings.{links_start}
use Rattle.links.specs.declared.Link.{Link as LinkHere}
use Rattle.links.proofs.Place.{behind_one}
use Rattle.links.proofs.Stand.{Stand, none, one, links_stand}
use Rattle.pairs.specs.declared.Front.{Front}
use Rattle.pairs.specs.Fronts.{no_pair, front_of, front_at}
use Rattle.pairs.proofs.Merge.{differ_by, Above, Ordered, ordered, below_all, differ_in, differ_in_tables, differ_at_most, differ_in_none, old_only, new_only, in_both}

-- what the link reader tells at a place, in front
module _ (bytes : List ℕ) (place : ℕ) where
  pub front_some : (l : LinkHere) (pair : ℕ) → pair ≡ l.a * 256 + l.b → Tells bytes place (Some l)
      → record { pair = pair; weight = l.weight; behind = l.behind } ≡ front_at bytes place
  unfolding front_of next_numbers place_in
  front_some l pair p t = rw (p, ← t.0, ← t.1)

  pub front_none : Tells bytes place None → record { pair = no_pair; weight = 0; behind = place } ≡ front_at bytes place
  unfolding front_of next_numbers place_in
  front_none t = rw (← t.0, ← t.1)

-- ---- what is left of one table's links

-- the first of these links is in front, and the others stand behind it
abbrev Leads : List ℕ → Front → List Link → Type 0
Leads bytes f [] = f.pair ≡ no_pair
Leads bytes f (l ∷ ls) = (f.pair ≡ pair_number l) × (f.weight ≡ l.weight) × Stand bytes f.behind ls

-- these links are left of a table
record Left (bytes : List ℕ) (f : Front) (ls : List Link) : Type 0 where
  leads : Leads bytes f ls
  in_order : Ordered ls

leads_at : (bytes : List ℕ) (place : ℕ) (ls : List Link) (f : Front) → Stand bytes place ls → f ≡ front_at bytes place → Leads bytes f ls
unfolding front_of
leads_at bytes place ls f (none e) q = rw (q, e)
leads_at bytes place ls f (one {l = l} e s) q = (rw (q, e), rw (q, e), rw (q, behind_one bytes place l e) s)

-- what comes in front is above what was there
abbrev pub Rises : Front → Front → Type 0
Rises f f' = (f.pair < f'.pair) × (f'.pair ≤ no_pair)

module _ (bytes : List ℕ) (f : Front) where
  -- no link left is below what is in front
  above : (k : ℕ) (ls : List Link) → Left bytes f ls → k < f.pair → Above k ls
  above k [] h g = tt
  above k (l ∷ ls) h g = below_all k l ls h.in_order (omega (arith, h.leads.0))

  at_most : (ls : List Link) → Left bytes f ls → f.pair ≤ no_pair
  at_most [] h = omega (arith, h.leads)
  at_most (l ∷ ls) h = omega (arith, h.leads.0, h.in_order.0)

  rises : (ls : List Link) (g : Front) → g.pair < no_pair → Left bytes f ls → Above g.pair ls → Rises g f
  rises [] g b h a = omega (arith, h.leads)
  rises (l ∷ ls) g b h a = omega (arith, h.leads.0, h.in_order.0, a.0)

-- the link in front is passed: what it was, and the links that are left
record Passed (bytes : List ℕ) (f f' : Front) (ls : List Link) : Type 0 where
  first : Link
  others : List Link
  whole : ls ≡ first ∷ others
  pair_in_front : f.pair ≡ pair_number first
  weight_in_front : f.weight ≡ first.weight
  in_order : Ordered (first ∷ others)
  rest : Left bytes f' others
  higher : Rises f f'

pass : (bytes : List ℕ) (f f' : Front) (ls : List Link) → Left bytes f ls → f.pair < no_pair → f' ≡ front_at bytes f.behind → Passed bytes f f' ls
pass bytes f f' [] h b q = absurd (omega (arith, h.leads))
pass bytes f f' (l ∷ ls) h b q =
    let rest : Left bytes f' ls = record { leads = leads_at bytes f.behind ls f' h.leads.2 q; in_order = h.in_order.2 } in
    record {
      first = l;
      others = ls;
      whole = refl;
      pair_in_front = h.leads.0;
      weight_in_front = h.leads.1;
      in_order = h.in_order;
      rest = rest;
      higher = rises bytes f' ls f b rest (rw (sym h.leads.0) at h.in_order.1);
    }

-- the pair in front of one table is lower than that of the other: it is passed, and counts one wherever a lower link does
record Turned (bytes : List ℕ) (f f' : Front) (ls ms : List Link) (differ : List Link → List Link → ℕ) : Type 0 where
  others : List Link
  rest : Left bytes f' others
  one_more : differ ls ms ≡ 1 + differ others ms
  higher : Rises f f'

turn : (bytes other : List ℕ) (f f' g : Front) (ls ms : List Link) (differ : List Link → List Link → ℕ) → Left bytes f ls → Left other g ms → f.pair < g.pair
    → f' ≡ front_at bytes f.behind
    → ((l : Link) (ls : List Link) → LinkFits 64 l → Ordered ms → Above (pair_number l) ms → differ (l ∷ ls) ms ≡ 1 + differ ls ms)
    → Turned bytes f f' ls ms differ
turn bytes other f f' g ls ms differ h k lower q only =
    let x = pass bytes f f' ls h (omega (arith, at_most other g ms k)) q in
    record {
      others = x.others;
      rest = x.rest;
      one_more =
          ap (λ ls. differ ls ms) x.whole
          ∙ only x.first x.others x.in_order.0 k.in_order (above other g (pair_number x.first) ms k (omega (arith, x.pair_in_front)));
      higher = x.higher;
    }

-- ---- the walk along both tables

module _ (old new : List ℕ) where
  -- what is left of each table, and how many links differ: those counted, and those among what is left
  pub record Walk (o n : Front) (count : ℕ) : Type 0 where
    os : List Link
    ns : List Link
    old_left : Left old o os
    new_left : Left new n ns
    counted : count + differ_in os ns ≡ differing (says old) (says new)
    few : differing (says old) (says new) ≤ 512

  pub starts : (i k : ℕ) (o n : Front) → IsAccepted old → IsAccepted new → i ≡ links_start old → k ≡ links_start new
      → o ≡ front_at old i → n ≡ front_at new k → Walk o n 0
  starts i k o n a b s t p q = record {
    os = (says old).links;
    ns = (says new).links;
    old_left = record { leads = leads_at old i (says old).links o (rw s (links_stand old a)) p; in_order = ordered (says old) (obeys old a) };
    new_left = record { leads = leads_at new k (says new).links n (rw t (links_stand new b)) q; in_order = ordered (says new) (obeys new b) };
    counted = omega (arith, differ_in_tables (says old) (says new));
    few =
        omega (
          arith,
          differ_in_tables (says old) (says new),
          differ_at_most (says old).links (says new).links,
          (obeys old a).few_links,
          (obeys new b).few_links,
        );
  }

  module _ (o n : Front) (count : ℕ) (w : Walk o n count) where
    pub count_small : count ≤ 512
    count_small = omega (arith, w.counted, w.few)

    -- the pair in front is lower in the old table: it is in that one only
    pub old_turn : o.pair < n.pair → (o' : Front) → o' ≡ front_at old o.behind → Walk o' n (count + 1) × Rises o o'
    old_turn h o' q =
        let x = turn old new o o' n w.os w.ns differ_in w.old_left w.new_left h q (λ l ls. old_only l ls w.ns) in
        (record { os = x.others; ns = w.ns; old_left = x.rest; new_left = w.new_left; counted = omega (arith, w.counted, x.one_more); few = w.few }, x.higher)

    -- the other way round
    pub new_turn : n.pair < o.pair → (n' : Front) → n' ≡ front_at new n.behind → Walk o n' (count + 1) × Rises n n'
    new_turn h n' q =
        let x = turn new old n n' o w.ns w.os (λ ns os. differ_in os ns) w.new_left w.old_left h q (λ l ls. new_only l w.os ls) in
        (record { os = w.os; ns = x.others; old_left = w.old_left; new_left = x.rest; counted = omega (arith, w.counted, x.one_more); few = w.few }, x.higher)

    module _ (e : o.pair ≡ n.pair) where
      -- one pair in front of both
      pub both_turn : o.pair ≢ no_pair → (d : ℕ) → d ≡ differ_by o.weight n.weight
          → (o' n' : Front) → o' ≡ front_at old o.behind → n' ≡ front_at new n.behind → Walk o' n' (count + d) × Rises o o' × Rises n n'
      both_turn h d r o' n' p q =
          let b : o.pair ≤ no_pair = at_most old o w.os w.old_left in
          let x = pass old o o' w.os w.old_left (omega arith) p in
          let y = pass new n n' w.ns w.new_left (omega arith) q in
          let r' : d ≡ differ_by x.first.weight y.first.weight = rw (← x.weight_in_front, ← y.weight_in_front) r in (
            record {
              os = x.others;
              ns = y.others;
              old_left = x.rest;
              new_left = y.rest;
              counted =
                  omega (
                    arith,
                    rw (x.whole, y.whole) at w.counted,
                    in_both x.first y.first x.others y.others x.in_order y.in_order (omega arith),
                    r',
                  );
              few = w.few;
            },
            x.higher,
            y.higher,
          )

      -- no pair in front of either: all are counted
      pub ends : o.pair ≡ no_pair → count ≡ differing (says old) (says new)
      ends h = go w.os w.ns w.old_left w.new_left w.counted
        where
          go : (os ns : List Link) → Left old o os → Left new n ns → count + differ_in os ns ≡ differing (says old) (says new)
              → count ≡ differing (says old) (says new)
          go [] [] f g s = omega (arith, differ_in_none)
          go (l ∷ os) ns f g s = absurd (omega (arith, f.leads.0, f.in_order.0))
          go [] (l ∷ ns) f g s = absurd (omega (arith, g.leads.0, g.in_order.0))
