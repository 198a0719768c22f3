-- The companion's answers and the parts handed back, case by case.
-- Assumes nothing.
use mathlib.Core.Path.{◌≡◌, refl, sym, ◌∙◌, ap, subst}
use mathlib.Core.Bool.{false, ◌||◌}
use mathlib.Core.Logic.{◌↔◌, ◌⊎◌, inl, inr}
use mathlib.Core.Option.{Option as Found, none, some}
use mathlib.Core.List.{List}
use Prim.Native.Nat.{ℕ, ◌+◌, ◌≤◌, ◌<◌}
use native.Mathlib.Omega.{arith}
use lib.Dec.{eqb}
use lib.ListN.{length}
use borrow.Author.Tests.{eq-eqb, le-leb, lt-leb}
use denote.Ref.{Bor}
use Rattle.std.specs.Prelude.{Result, Option, Some, None, Ok, Err}
use Rattle.rules.specs.Words.{Line, pick}
use Rattle.rules.specs.Layout.{Name}
use Rattle.rules.specs.Table.{says}
use Rattle.rules.specs.Demand1.{IsAccepted}
use Rattle.rules.specs.Names.{Part, part_or, empty_part, named, or_else}
use Rattle.rules.specs.Answers.{Answer, Answered, Refused, bad_router}
use Rattle.rules.specs.NameQuestions.{name_for, NameInputs, name_refusals, name_answer, name_part, TwoNamesInputs, two_names_refusals, two_names_answer, two_names_part, table_in}
use Rattle.rules.proofs.Basics.{pick_t, pick_f}
use Rattle.rules.proofs.Answers.{applies, asks_routers}
use Rattle.rules.proofs.NameQuestions.{name_proved, two_names_proved}
use Rattle.refusals.specs.declared.Reason.TheVariants.{NoSuchRouter}
use Rattle.refusals.specs.declared.Refusal.{Refusal}
use Rattle.refusals.specs.declared.Which.{Which}
use Rattle.refusals.specs.declared.Which.TheVariants.{Old, New}
use Rattle.refusals.specs.Refusals.{table_number, without_place, in_new, answer_told}
use Rattle.refusals.proofs.Told.{some_number}
use Rattle.tables.specs.Accepted.{Accepts}
use Rattle.tables.specs.declared.accepted.Table.{Table}
use Rattle.tables.proofs.Asked.{own_routers}
use Rattle.tables.proofs.OnTable.{table_refuses, reason_refuses, none_refuses}
use Rattle.tables.proofs.OnTables.{old_refuses, new_refuses, reason_refuses as both_refused, both_answer}
use Rattle.names.specs.Namings.{named_number, IsNamed, NamesIn, NamesInTwo, part_of, part_of_two}
use Rattle.names.specs.Parts.{PartAt, IsPart, IsPartOfTwo, GivesName, GivesNameOfTwo}
use Rattle.names.specs.declared.Part.{Part as PartHere}

-- ---- a name that is found

-- whether there is one
told_so : (which : Which) (o : Found Name) → named_number (part_of which o) ≡ named o
unfolding named_number part_of
told_so which none = refl
told_so which (some m) = refl

told_of_two : (o p : Found Name) → named_number (part_of_two o p) ≡ named (or_else p o)
unfolding part_of_two
told_of_two o (some m) = told_so New (some m)
told_of_two o none = told_so Old o

-- and its part
named_so : (which : Which) (o : Found Name) (other : Part) → IsNamed (part_or (table_number which) o other) (part_of which o)
unfolding part_of
named_so which none other = tt
named_so which (some m) other = refl

named_of_two : (o p : Found Name) (other : Part) → IsNamed (part_or 1 p (part_or 0 o other)) (part_of_two o p)
unfolding part_of_two
named_of_two o (some m) other = named_so New (some m) other
named_of_two o none other = named_so Old o other

-- ---- the companion's answer for one table

module _ (s : Bor (List ℕ)) (router : ℕ) where
  abbrev asked : NameInputs
  asked = record { table = s.now; router = router }

  -- the table is refused
  pub in_refused : (r : Refusal) → Accepts s (Err r) → NamesIn asked (Err r)
  unfolding name_answer
  in_refused r p = (table_refuses 0 _ named_number s.now (name_refusals (says s.now).routers router) r p, tt)

module _ (t : Table) (router : ℕ) where
  abbrev refusals : ℕ → List (Line ℕ)
  refusals n = name_refusals n router

  -- the router is not below N
  pub in_above : t.outline.routers ≤ router → NamesIn (asked t.bytes router) (Err (without_place NoSuchRouter))
  unfolding name_answer
  in_above h = (reason_refuses 0 _ named_number t refusals NoSuchRouter (sym (pick_t _ _ _ (le-leb _ _ h))), tt)

  -- it is, and its name is looked for
  pub in_found : router < t.outline.routers → NamesIn (asked t.bytes router) (Ok (part_of Old (name_for t.bytes.now router)))
  unfolding name_answer name_part answer_told
  in_found h = (
    said,
    subst (λ part. IsNamed part (part_of Old found)) (sym (pick_t _ _ _ (eq-eqb _ 0 (sym (ap (λ a. a.refusal.number) said)))))
        (named_so Old found (empty_part 0 t.bytes.now)),
  )
    where
      found : Found Name
      found = name_for t.bytes.now router

      said : answer_told 0 named_number (Ok (part_of Old found)) ≡ name_answer (asked t.bytes router)
      said = none_refuses 0 (named found) named_number t refusals (sym (pick_f _ _ _ (lt-leb _ _ h))) _ (told_so Old found)

-- ---- the companion's answer for two tables

-- a router that is not below one N is not below both
not_both : {k l m : ℕ} → (k ≤ m) ⊎ (l ≤ m) → ¬ ((m < k) × (m < l))
not_both (inl h) = λ b. omega arith
not_both (inr h) = λ b. omega arith

module _ (old new : Bor (List ℕ)) (router : ℕ) where
  abbrev asked_of_two : TwoNamesInputs
  asked_of_two = record { old = old.now; new = new.now; router = router }

  abbrev refusals_of_two : List (Line ℕ)
  refusals_of_two = two_names_refusals (says old.now).routers (says new.now).routers router

  -- the old table is refused
  pub two_old : (r : Refusal) → Accepts old (Err r) → NamesInTwo asked_of_two (Err r)
  unfolding two_names_answer
  two_old r p = (old_refuses 0 _ named_number old.now new.now refusals_of_two r p, tt)

  -- the new one is
  pub two_new : IsAccepted old.now → (r : Refusal) → Accepts new (Err r) → NamesInTwo asked_of_two (Err (in_new r))
  unfolding two_names_answer
  two_new a r q = (new_refuses 0 _ named_number old.now new.now refusals_of_two a r q, tt)

module _ (o n : Table) (router : ℕ) where
  abbrev asked_of_both : TwoNamesInputs
  asked_of_both = asked_of_two o.bytes n.bytes router

  abbrev refusals_of_both : List (Line ℕ)
  refusals_of_both = refusals_of_two o.bytes n.bytes router

  tested : (bad_router (says o.bytes.now).routers router || bad_router (says n.bytes.now).routers router ≡ false)
      ↔ ((router < o.outline.routers) × (router < n.outline.routers))
  tested = rw (own_routers _ o.outline o.outlined, own_routers _ n.outline n.outlined) (asks_routers _ _ router router)

  -- the router is not below both N
  pub two_above : (o.outline.routers ≤ router) ⊎ (n.outline.routers ≤ router) → NamesInTwo asked_of_both (Err (without_place NoSuchRouter))
  unfolding two_names_answer
  two_above h = (
    both_refused 0 _ named_number o.bytes.now n.bytes.now refusals_of_both o.accepted n.accepted NoSuchRouter (sym (pick_t _ _ _ (applies _ tested (not_both h)))),
    tt,
  )

  -- it is, and its name is looked for
  module _ (h : router < o.outline.routers) (g : router < n.outline.routers) where
    abbrev by_old : Found Name
    by_old = name_for o.bytes.now router

    abbrev by_new : Found Name
    by_new = name_for n.bytes.now router

    pub two_found : NamesInTwo asked_of_both (Ok (part_of_two by_old by_new))
    unfolding two_names_answer two_names_part answer_told
    two_found = (
      said,
      subst (λ part. IsNamed part (part_of_two by_old by_new)) (sym (pick_t _ _ _ (eq-eqb _ 0 (sym (ap (λ a. a.refusal.number) said)))))
          (named_of_two by_old by_new (empty_part 1 n.bytes.now)),
    )
      where
        said : answer_told 0 named_number (Ok (part_of_two by_old by_new)) ≡ two_names_answer asked_of_both
        said =
            both_answer 0 (named (or_else by_new by_old)) named_number o.bytes.now n.bytes.now refusals_of_both o.accepted n.accepted
            (pick_f _ _ _ (tested.1 (h, g))) _ (told_of_two by_old by_new)

-- ---- the part handed back

-- an answer that is no name: none, or a refusal
abbrev Unnamed : Result (Option PartHere) Refusal → Type 0
Unnamed x = (x ≡ Ok None) ⊎ ((e : Refusal) × (x ≡ Err e))

-- a refusal's number is not 0
refuses : {T A : Type 0} (zeros : A) (told : T → A) (r : Refusal) (a : Answer A) → answer_told zeros told (Err r) ≡ a → Refused a
unfolding answer_told
refuses zeros told r a e z = some_number r.reason (ap (λ a. a.refusal.number) e ∙ z)

-- an answer is no refusal, and has its own values
answers : {T A : Type 0} (zeros : A) (told : T → A) (x : T) (a : Answer A) → answer_told zeros told (Ok x) ≡ a → Answered a × (told x ≡ a.values)
unfolding answer_told
answers zeros told x a e = (sym (ap (λ a. a.refusal.number) e), ap (λ a. a.values) e)

module _ (s : Bor (List ℕ)) (router : ℕ) where
  -- where the answer is no name, the part is the empty one
  empty_so : (x : Result (Option PartHere) Refusal) → NamesIn (asked s router) x → Unnamed x → name_part (asked s router) ≡ empty_part 0 s.now
  unfolding named_number
  empty_so x n (inl e) = go (name_for s.now router) refl
    where
      a : Answered (name_answer (asked s router)) × (0 ≡ (name_answer (asked s router)).values)
      a = answers 0 named_number None _ (rw e at n).0

      go : (o : Found Name) → name_for s.now router ≡ o → name_part (asked s router) ≡ empty_part 0 s.now
      go none q = ((name_proved (asked s router)).when_unnamed a.0 q).1
      go (some m) q = absurd (omega (arith, a.1, ((name_proved (asked s router)).when_named m a.0 q).0))
  empty_so x n (inr (r, e)) = (name_proved (asked s router)).when_refused (refuses 0 named_number r _ (rw e at n).0)

  pub in_empty : (x : Result (Option PartHere) Refusal) → NamesIn (asked s router) x → Unnamed x → (r : Bor (List ℕ))
      → PartAt s (length s.now) 0 r → GivesName s router r
  in_empty x n e r h = subst (λ part. IsPart s part r) (sym (empty_so x n e)) h

  -- a name is within the table
  pub in_within : (p : PartHere) → NamesIn (asked s router) (Ok (Some p)) → p.place + p.size ≤ length s.now
  unfolding named_number
  in_within p n =
      subst (λ (part : Part). part.place + part.size ≤ length s.now) (sym n.1)
      ((name_proved (asked s router)).fits (sym (answers 0 named_number (Some p) _ n.0).1)).within

module _ (old new : Bor (List ℕ)) (router : ℕ) where
  abbrev q : TwoNamesInputs
  q = asked_of_two old new router

  empty_of_two : (x : Result (Option PartHere) Refusal) → NamesInTwo q x → Unnamed x → two_names_part q ≡ empty_part 1 new.now
  unfolding named_number
  empty_of_two x n (inl e) = go (name_for new.now router) (name_for old.now router) refl refl
    where
      a : Answered (two_names_answer q) × (0 ≡ (two_names_answer q).values)
      a = answers 0 named_number None _ (rw e at n).0

      go : (o p : Found Name) → name_for new.now router ≡ o → name_for old.now router ≡ p → two_names_part q ≡ empty_part 1 new.now
      go none none e f = ((two_names_proved q).when_unnamed a.0 e f).1
      go none (some m) e f = absurd (omega (arith, a.1, ((two_names_proved q).when_old m a.0 e f).0))
      go (some m) p e f = absurd (omega (arith, a.1, ((two_names_proved q).when_new m a.0 e).0))
  empty_of_two x n (inr (r, e)) = (two_names_proved q).when_refused (refuses 0 named_number r _ (rw e at n).0)

  pub two_empty : (x : Result (Option PartHere) Refusal) → NamesInTwo q x → Unnamed x → (r : Bor (List ℕ))
      → PartAt new (length new.now) 0 r → GivesNameOfTwo old new router r
  two_empty x n e r h = subst (λ part. IsPartOfTwo old new part r) (sym (empty_of_two x n e)) h

  -- the table that a part is of
  abbrev lent : Which → Bor (List ℕ)
  lent Old = old
  lent New = new

  bytes_of : (which : Which) → pick (eqb (table_number which) 0) old.now new.now ≡ (lent which).now
  bytes_of Old = refl
  bytes_of New = refl

  pub two_within : (p : PartHere) → NamesInTwo q (Ok (Some p)) → p.place + p.size ≤ length (lent p.table).now
  unfolding named_number
  two_within p n =
      subst (λ bytes. p.place + p.size ≤ length bytes) (bytes_of p.table) (
      subst (λ (part : Part). part.place + part.size ≤ length (table_in q part)) (sym n.1)
      ((two_names_proved q).fits (sym (answers 0 named_number (Some p) _ n.0).1)).within
      )
