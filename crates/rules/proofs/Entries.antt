-- The four lines of an entry: what each gives, and what held where it was given.
-- Assumes nothing.
use mathlib.Core.Path.{◌≡◌, refl, sym, ◌∙◌, ap, subst}
use mathlib.Core.Logic.{◌≢◌}
use mathlib.Core.Bool.{Bool, true, false, false≢true}
use Prim.Native.Nat.{ℕ, ◌<◌}
use native.Mathlib.Decide.{ℕ_discrete}
use native.Mathlib.Omega.{arith}
use lib.Dec.{ltb}
use borrow.Author.Tests.{ltb-true, ltb-false, eq-eqb, ne_eqb}
use Rattle.rules.specs.Layout.{Table, Obeys}
use Rattle.rules.specs.Costs.{no_cost, cost}
use Rattle.rules.specs.NextHops.{has, chosen, next_hops}
use Rattle.rules.specs.Entries.{Entry, deliver, discard, no_route, forward, Rules, entry_by, rules_of, entry, code}
use Rattle.rules.specs.Demand2.{LeadsOn, Lowest, FourLines, EntriesForward, EntriesByLines}
use Rattle.rules.proofs.Weights.{net}
use Rattle.rules.proofs.LeastCost.{cost_laws}
use Rattle.rules.proofs.Sets.{sets_fit, has_next, chosen_member, sets_have_neighbours}

-- router i, previous hop j, destination d
module _ (rules : Rules) (i j d : ℕ) where
  -- the destination delivers by any rules
  pub home_delivers : i ≡ d → entry_by rules i j d ≡ deliver
  unfolding entry_by
  home_delivers e = rw (eq-eqb i d e)

  no_route_tells : i ≢ d → rules.has_route i ≡ false → entry_by rules i j d ≡ no_route
  unfolding entry_by
  no_route_tells a r = rw (ne_eqb i d a, r)

  pub discards_drop : i ≢ d → rules.has_route i ≡ true → rules.discards i j ≡ true → entry_by rules i j d ≡ discard
  unfolding entry_by
  discards_drop a r t = rw (ne_eqb i d a, r, t)

  pub others_go : i ≢ d → rules.has_route i ≡ true → rules.discards i j ≡ false → entry_by rules i j d ≡ forward (rules.hop i j)
  unfolding entry_by
  others_go a r t = rw (ne_eqb i d a, r, t)

  pub data Enters : Entry → Type 0 where
    at_home : i ≡ d → Enters deliver
    cut_off : i ≢ d → rules.has_route i ≡ false → Enters no_route
    drops : i ≢ d → rules.has_route i ≡ true → rules.discards i j ≡ true → Enters discard
    sends : i ≢ d → rules.has_route i ≡ true → rules.discards i j ≡ false → Enters (forward (rules.hop i j))

  enters : Enters (entry_by rules i j d)
  enters = go (ℕ_discrete i d) (rules.has_route i) refl (rules.discards i j) refl
    where
      go : Dec (i ≡ d) → (s : Bool) → rules.has_route i ≡ s → (t : Bool) → rules.discards i j ≡ t → Enters (entry_by rules i j d)
      go (yes e) s q t o = rw (home_delivers e) (at_home e)
      go (no a) false q t o = rw (no_route_tells a q) (cut_off a q)
      go (no a) true q true o = rw (discards_drop a q o) (drops a q o)
      go (no a) true q false o = rw (others_go a q o) (sends a q o)

  -- an entry that is known
  pub entered : {e : Entry} → entry_by rules i j d ≡ e → Enters e
  entered q = rw q at enters

  pub delivers_home : entry_by rules i j d ≡ deliver → i ≡ d
  delivers_home q = go (entered q)
    where
      go : Enters deliver → i ≡ d
      go (at_home e) = e

-- 1 for the first line, 0 for the others
abbrev first_line : Entry → ℕ
first_line deliver = 1
first_line discard = 0
first_line no_route = 0
first_line (forward k) = 0

-- any other entry is given away from the destination
pub away : (rules : Rules) (i j d : ℕ) {e : Entry} → entry_by rules i j d ≡ e → first_line e ≡ 0 → i ≢ d
away rules i j d q z h = omega (arith, ap first_line (sym q ∙ home_delivers rules i j d h))

-- ---- document 01's rules

-- the chosen hop is a member where the cost is finite
pub chosen_leads : (t : Table) → Obeys t → (i d : ℕ) → i ≢ d → cost t i d < no_cost → has (next_hops t i d) (chosen (next_hops t i d)) ≡ true
chosen_leads t o i d a f =
    let (k, s) = (cost_laws t o d).tight i a f in
    (chosen_member (next_hops t i d) k (sets_fit t o i d) ((has_next t o i d k).1 s)).0

pub entries_forward : EntriesForward
unfolding entry rules_of
entries_forward t o i j d k e = go (entered (rules_of t d) i j d e)
  where
    go : {k : ℕ} → Enters (rules_of t d) i j d (forward k) → (has (next_hops t i d) k ≡ true) × (k < t.routers)
    go (sends a r x) =
        let m = chosen_leads t o i d a (ltb-true (cost t i d) no_cost r) in
        (m, ((net t o).inside i (chosen (next_hops t i d)) ((has_next t o i d (chosen (next_hops t i d))).0 m).link).1)

-- ---- the four lines, over costs and neighbours

-- the chosen hop is the lowest neighbour that leads on
chosen_lowest : (t : Table) → Obeys t → (i d : ℕ) → i ≢ d → cost t i d < no_cost → Lowest (LeadsOn t i d) (chosen (next_hops t i d))
chosen_lowest t o i d a f = (
  (sets_have_neighbours t o i d (chosen (next_hops t i d))).0 (chosen_leads t o i d a f),
  λ m l. (chosen_member (next_hops t i d) m (sets_fit t o i d) ((sets_have_neighbours t o i d m).1 l)).1,
)

pub entries_by_lines : EntriesByLines
unfolding entry rules_of
entries_by_lines t o i j d = go (enters rules i j d)
  where
    rules : Rules
    rules = rules_of t d

    real : ltb (cost t i d) no_cost ≡ true → cost t i d ≢ no_cost
    real r e = omega (arith, ltb-true (cost t i d) no_cost r)

    go : {e : Entry} → Enters rules i j d e → FourLines t i j d (code e)
    go (at_home e) = record {
      delivers = (λ c. e, λ h. refl);
      has_none = λ a. absurd (a e);
      discards = λ a. absurd (a e);
      forwards = λ a. absurd (a e);
    }
    go (cut_off a r) =
        let none : cost t i d ≡ no_cost = omega (arith, ltb-false (cost t i d) no_cost r, (cost_laws t o d).top i) in
        record {
          delivers = (omega arith, λ h. absurd (a h));
          has_none = λ a. (λ c. none, λ h. refl);
          discards = λ a n. absurd (n none);
          forwards = λ a n. absurd (n none);
        }
    go (drops a r x) =
        let leads : LeadsOn t i d j = (sets_have_neighbours t o i d j).0 x in
        record {
          delivers = (omega arith, λ h. absurd (a h));
          has_none = λ a. (omega arith, λ h. absurd (real r h));
          discards = λ a n. (λ c. leads, λ l. refl);
          forwards = λ a n l. absurd (l leads);
        }
    go (sends a r x) =
        let low = chosen_lowest t o i d a (ltb-true (cost t i d) no_cost r) in
        let few = ((net t o).inside i (chosen (next_hops t i d)) low.0.0).1 in
        let c = chosen (next_hops t i d) in
        record {
          delivers = (omega (arith, few, o.few_routers), λ h. absurd (a h));
          has_none = λ a. (omega (arith, few, o.few_routers), λ h. absurd (real r h));
          discards = λ a n. (omega (arith, few, o.few_routers), λ l. absurd (false≢true (sym x ∙ (sets_have_neighbours t o i d j).1 l)));
          forwards = λ a n l k. (λ e. subst (Lowest (LeadsOn t i d)) e low, λ m. omega (arith, low.1 k m.0, m.1 c low.0));
        }
