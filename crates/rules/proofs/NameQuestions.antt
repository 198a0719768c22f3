-- What is proved of the name questions: the part handed back is the very bytes of the name inside the table, and lies within it.
-- Assumes nothing.
use mathlib.Core.Path.{◌≡◌, refl, sym, ◌∙◌, ap, ap₂, subst}
use mathlib.Core.Logic.{◌≢◌}
use mathlib.Core.Option.{Option, none, some, some-injective}
use mathlib.Core.Bool.{Bool, true, false}
use mathlib.Core.List.Memᴰ
use mathlib.Core.List.{List, [], ◌∷◌, Memᴰ, map}
use Prim.Native.Nat.{ℕ, ◌≤◌, ◌<◌}
use native.Mathlib.Decide.{ℕ_discrete}
use native.Mathlib.Omega.{arith}
use lib.Dec.{eqb}
use lib.ListN.{length, take, drop, length-take, length-drop}
use borrow.Author.Tests.{eqb-true, eqb-false, eq-eqb, ne_eqb}
use Rattle.rules.specs.Words.{pick, All, Rising}
use Rattle.rules.specs.Layout.{Name, NameFits}
use Rattle.rules.specs.Table.{says}
use Rattle.rules.specs.Names.{Part, part_bytes, name_in, part_or, empty_part, named, or_else}
use Rattle.rules.specs.Demand1.{IsAccepted}
use Rattle.rules.specs.Answers.{Answer, Answered, RefusedBy, Exactly}
use Rattle.rules.specs.NameQuestions.{name_for, NamesAreFound, PartFits, NameInputs, name_refusals, name_found, name_cases, name_answer, name_part, NameProved, TwoNamesInputs, two_names_refusals, found_in_new, found_in_old, two_names_cases, two_names_answer, two_names_part, table_in, TwoNamesProved}
use Rattle.rules.proofs.Basics.{pick_t, pick_f, All-listed}
use Rattle.rules.proofs.Acceptance.{obeys}
use Rattle.rules.proofs.Lengths.{lengths_hold}
use Rattle.rules.proofs.Names.{StandsIn, names_stand}
use Rattle.rules.proofs.Answers.{tables_first, listed_numbers, asks-<, asks_routers}

-- ---- the name found is the router's own

module _ (i : ℕ) where
  -- it is a listed name of this router,
  found_own : (ms : List Name) (m : Name) → name_in ms i ≡ some m → Memᴰ m ms × (m.router ≡ i)
  unfolding name_in
  found_own [] m e = absurd (omega (arith, ap named e))
  found_own (x ∷ xs) m e = go (eqb x.router i) refl e (found_own xs m)
    where
      go : (t : Bool) → eqb x.router i ≡ t → pick t (some x) (name_in xs i) ≡ some m → (name_in xs i ≡ some m → Memᴰ m xs × (m.router ≡ i))
          → Memᴰ m (x ∷ xs) × (m.router ≡ i)
      go true q e ih =
          let same = some-injective x m e in
          (Memᴰ.head (sym same), ap (λ (m : Name). m.router) (sym same) ∙ eqb-true x.router i q)
      go false q e ih = let (l, r) = ih e in (Memᴰ.tail l, r)

  -- and the only one, because routers rise
  own_found : (ms : List Name) → Rising (map (λ m. m.router) ms) → (m : Name) → Memᴰ m ms → m.router ≡ i → name_in ms i ≡ some m
  unfolding name_in
  own_found [] r m l e = elim l [ ]
  own_found (x ∷ xs) r m (Memᴰ.head q) e = pick_t _ _ _ (eq-eqb x.router i (ap (λ (m : Name). m.router) (sym q) ∙ e)) ∙ ap some (sym q)
  own_found (x ∷ xs) r m (Memᴰ.tail l) e =
      let higher = All-listed (λ n. x.router < n) (map (λ m. m.router) xs) r.0 m.router (Memᴰ.map (λ m. m.router) l) in
      pick_f _ _ _ (ne_eqb x.router i (omega arith)) ∙ own_found xs r.1 m l e

  none_own : (ms : List Name) → name_in ms i ≡ none → All (λ m. m.router ≢ i) ms
  unfolding name_in
  none_own [] e = tt
  none_own (x ∷ xs) e = go (eqb x.router i) refl e (none_own xs)
    where
      go : (t : Bool) → eqb x.router i ≡ t → pick t (some x) (name_in xs i) ≡ none → (name_in xs i ≡ none → All (λ m. m.router ≢ i) xs)
          → (x.router ≢ i) × All (λ m. m.router ≢ i) xs
      go true q e ih = absurd (omega (arith, ap named e))
      go false q e ih = (eqb-false x.router i q, ih e)

  own_none : (ms : List Name) → All (λ m. m.router ≢ i) ms → name_in ms i ≡ none
  unfolding name_in
  own_none [] h = refl
  own_none (x ∷ xs) h = pick_f _ _ _ (ne_eqb x.router i h.0) ∙ own_none xs h.1

pub names_are_found : NamesAreFound
names_are_found table a i = record {
  its_own = λ m. (found_own i ms m, λ (l, e). own_found i ms (obeys table a).names_rise m l e);
  no_other = (none_own i ms, own_none i ms);
}
  where
    ms : List Name
    ms = (says table).names

-- ---- its part

-- what holds of every name listed holds of one that is found
found_holds : (P : Name → Type 0) (ms : List Name) → All P ms → (i : ℕ) (m : Name) → name_in ms i ≡ some m → P m
found_holds P ms h i m e = All-listed P ms h m (found_own i ms m e).0

-- a name that is found stands in the table
part_stands : (bytes : List ℕ) (i : ℕ) (m : Name) → name_for bytes i ≡ some m → StandsIn bytes m
part_stands bytes i = found_holds (StandsIn bytes) (says bytes).names (names_stand bytes) i

-- and its part fits
module _ (bytes : List ℕ) (a : IsAccepted bytes) (i : ℕ) (m : Name) (e : name_for bytes i ≡ some m) where
  name_fits : NameFits (says bytes).routers m
  name_fits = found_holds (NameFits (says bytes).routers) (says bytes).names (obeys bytes a).names_fit i m e

  found_fits : (which : ℕ) → which ≤ 1 → PartFits bytes (record { table = which; place = m.place; size = length m.bytes })
  found_fits which w = record {
    of_a_table = w;
    not_empty = name_fits.not_empty;
    not_long = name_fits.not_long;
    within = omega (arith, stands, length-take (length m.bytes) (drop m.place bytes), length-drop m.place bytes, name_fits.not_empty);
    not_far = (lengths_hold bytes).longest a;
  }
    where
      stands : length (take (length m.bytes) (drop m.place bytes)) ≡ length m.bytes
      stands = ap (λ (l : List ℕ). length l) (part_stands bytes i m e)

-- a refusal names nothing
pub named_answered : {last_table : ℕ} {numbers : List ℕ} (a : Answer ℕ) → RefusedBy last_table numbers 0 a → a.values ≡ 1 → Answered a
named_answered a r v = go (ℕ_discrete a.refusal.number 0)
  where
    go : Dec (a.refusal.number ≡ 0) → a.refusal.number ≡ 0
    go (yes e) = e
    go (no n) = absurd (omega (arith, r.else_zero n))

-- ---- in one table

module _ (q : NameInputs) where
  -- the part that a name, or none, is
  abbrev part_of : Option Name → Part
  part_of o = part_or 0 o (empty_part 0 q.table)

  exactly : Exactly (name_cases q) 0 (named (name_found q)) (name_answer q)
  unfolding name_answer
  exactly =
      tables_first _ (q.table ∷ []) (name_refusals (says q.table).routers q.router) _ 0 (named (name_found q))
      (refl, asks-< (says q.table).routers q.router, tt) (omega arith, tt)

  listed : RefusedBy 0 (9 ∷ []) 0 (name_answer q)
  unfolding name_answer
  listed = listed_numbers _ (q.table ∷ []) (name_refusals (says q.table).routers q.router) 0 (named (name_found q))

  part_given : Answered (name_answer q) → name_part q ≡ part_of (name_found q)
  unfolding name_part
  part_given e = pick_t _ _ _ (eq-eqb _ 0 e)

  fits : (name_answer q).values ≡ 1 → PartFits q.table (name_part q)
  fits v = subst (PartFits q.table) (sym (part_given e)) (go (name_found q) refl (sym (exactly.given e) ∙ v))
    where
      e : Answered (name_answer q)
      e = named_answered (name_answer q) listed v

      go : (o : Option Name) → name_found q ≡ o → named o ≡ 1 → PartFits q.table (part_of o)
      go (some m) s n = found_fits q.table (exactly.asked.0 e).0 q.router m s 0 (omega arith)
      go none s n = absurd (omega arith)

  pub name_proved : NameProved q
  unfolding name_part
  name_proved = record {
    exactly = exactly;
    refusals = listed;
    when_refused = λ r. pick_f _ _ _ (ne_eqb _ 0 r);
    when_unnamed = λ e s. (exactly.given e ∙ ap named s, part_given e ∙ ap part_of s);
    when_named = λ m e s.
        let p = part_given e ∙ ap part_of s in
        (exactly.given e ∙ ap named s, p, ap (part_bytes q.table) p ∙ part_stands q.table q.router m s);
    fits = fits;
  }

-- ---- in two tables

module _ (q : TwoNamesInputs) where
  -- the part that the names in the new and in the old table are
  abbrev part_of_two : Option Name → Option Name → Part
  part_of_two o p = part_or 1 o (part_or 0 p (empty_part 1 q.new))

  exactly_two : Exactly (two_names_cases q) 0 (named (or_else (found_in_new q) (found_in_old q))) (two_names_answer q)
  unfolding two_names_answer
  exactly_two =
      tables_first _ (q.old ∷ q.new ∷ []) (two_names_refusals (says q.old).routers (says q.new).routers q.router) _ 0
      (named (or_else (found_in_new q) (found_in_old q)))
      (refl, asks_routers (says q.old).routers (says q.new).routers q.router q.router, tt) (omega arith, tt)

  listed_two : RefusedBy 1 (9 ∷ []) 0 (two_names_answer q)
  unfolding two_names_answer
  listed_two =
      listed_numbers _ (q.old ∷ q.new ∷ []) (two_names_refusals (says q.old).routers (says q.new).routers q.router) 0
      (named (or_else (found_in_new q) (found_in_old q)))

  part_of_two_given : Answered (two_names_answer q) → two_names_part q ≡ part_of_two (found_in_new q) (found_in_old q)
  unfolding two_names_part
  part_of_two_given e = pick_t _ _ _ (eq-eqb _ 0 e)

  fits_two : (two_names_answer q).values ≡ 1 → PartFits (table_in q (two_names_part q)) (two_names_part q)
  fits_two v = subst Fits (sym (part_of_two_given e)) (go (found_in_new q) (found_in_old q) refl refl (sym (exactly_two.given e) ∙ v))
    where
      Fits : Part → Type 0
      Fits part = PartFits (table_in q part) part

      e : Answered (two_names_answer q)
      e = named_answered (two_names_answer q) listed_two v

      go : (o p : Option Name) → found_in_new q ≡ o → found_in_old q ≡ p → named (or_else o p) ≡ 1 → Fits (part_of_two o p)
      go (some m) p s r n = found_fits q.new (exactly_two.asked.0 e).1.0 q.router m s 1 (omega arith)
      go none (some m) s r n = found_fits q.old (exactly_two.asked.0 e).0 q.router m r 0 (omega arith)
      go none none s r n = absurd (omega arith)

  pub two_names_proved : TwoNamesProved q
  unfolding two_names_part
  two_names_proved = record {
    exactly = exactly_two;
    refusals = listed_two;
    when_refused = λ r. pick_f _ _ _ (ne_eqb _ 0 r);
    when_unnamed = λ e s r.
        (exactly_two.given e ∙ ap₂ (λ o p. named (or_else o p)) s r, part_of_two_given e ∙ ap₂ part_of_two s r);
    when_new = λ m e s.
        let p = part_of_two_given e ∙ ap (λ o. part_of_two o (found_in_old q)) s in (
          exactly_two.given e ∙ ap (λ o. named (or_else o (found_in_old q))) s,
          p,
          ap (part_bytes q.new) p ∙ part_stands q.new q.router m s,
        );
    when_old = λ m e s r.
        let p = part_of_two_given e ∙ ap₂ part_of_two s r in (
          exactly_two.given e ∙ ap₂ (λ o p. named (or_else o p)) s r,
          p,
          ap (part_bytes q.old) p ∙ part_stands q.old q.router m r,
        );
    fits = fits_two;
  }
