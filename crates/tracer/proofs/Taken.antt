-- The number of an answer is taken apart again: what is read from its bytes is the answer.
-- Assumes nothing.
use mathlib.Core.Path.{◌≡◌, refl, sym, ◌∙◌, ap, subst}
use mathlib.Core.Logic.{◌≢◌}
use mathlib.Core.List.{List, ◌∷◌}
use mathlib.Core.Option.{Option, none, some}
use mathlib.Core.Bool.{true}
use Prim.Native.Nat.{ℕ, ◌+◌, ◌*◌, ◌%◌, ◌^◌, ◌≤◌, ◌<◌}
use native.Mathlib.Nat.{mul-le-mul}
use native.Mathlib.Decide.{ℕ_discrete}
use native.Mathlib.Omega.{arith}
use borrow.Author.Tests.{eq-eqb, ne_eqb, ltb-true}
use Rattle.rules.specs.Words.{◌<?◌, every, below}
use Rattle.rules.specs.Layout.{Table, Name, Obeys}
use Rattle.rules.specs.Table.{says}
use Rattle.rules.specs.NextHops.{has, members, chosen, size}
use Rattle.rules.specs.Entries.{Entry, deliver, discard, no_route, forward, entry, code}
use Rattle.rules.specs.Paths.{Path, Outcome, listed, delivered, discarded, unrouted, lost, outcome_code}
use Rattle.rules.specs.Names.{Part, named, or_else}
use Rattle.rules.specs.Answers.{Answer, answered, refused_with, Answered, RefusedBy, table_numbers}
use Rattle.rules.specs.ReadQuestion.{Reading}
use Rattle.rules.specs.PairQuestion.{Pairing}
use Rattle.rules.specs.ChosenQuestion.{ChosenHop, chosen_answer}
use Rattle.rules.specs.EntryQuestion.{entry_asked}
use Rattle.rules.specs.PathQuestion.{Ending, ending, path_of}
use Rattle.rules.specs.NameQuestions.{name_for, PartFits, name_answer, name_part, two_names_answer, two_names_part}
use Rattle.rules.specs.Demand1.{IsAccepted}
use Rattle.rules.proofs.Basics.{pick_t, pick_f, every_true, All-listed, All-at, All-map, all_those, those_at_most, length_below}
use Rattle.rules.proofs.Acceptance.{obeys}
use Rattle.rules.proofs.Entries.{entries_forward}
use Rattle.rules.proofs.LoopFree.{ends_inside}
use Rattle.rules.proofs.ReadQuestion.{read_proved}
use Rattle.rules.proofs.PairQuestion.{pair_proved}
use Rattle.rules.proofs.FillQuestion.{fill_proved}
use Rattle.rules.proofs.EntryQuestion.{entry_proved}
use Rattle.rules.proofs.InterfacesQuestion.{interfaces_proved}
use Rattle.rules.proofs.PathQuestion.{path_proved}
use Rattle.rules.proofs.NameQuestions.{named_answered, name_proved, two_names_proved}
use Rattle.tracer.specs.Packed.{refusal_bytes, packed, alone, reading_bytes, pairing_bytes, chosen_bytes, ending_bytes, named_bytes, name_bytes}
use Rattle.tracer.specs.Taken.{byte_in, two_bytes_in, taken, reading_in, pairing_in, byte_alone, two_bytes_alone, chosen_in, ending_in, named_in, part_in, TakenAgain, TakenApart}
use Rattle.tracer.proofs.Packing.{packed_answered, packed_refused}

-- ---- refusals

module _ (number table place : ℕ) (n : number < 256) (t : table < 256) (p : place < 256 ^ 6) where
  number_again : byte_in (refusal_bytes number table place) 7 ≡ number
  unfolding byte_in refusal_bytes
  number_again = omega arith

  table_again : byte_in (refusal_bytes number table place) 6 ≡ table
  unfolding byte_in refusal_bytes
  table_again = omega arith

  place_again : refusal_bytes number table place % 256 ^ 6 ≡ place
  unfolding refusal_bytes
  place_again = omega arith

-- values whose number is below byte 7, and is read as these values
abbrev Again : {A : Type 0} → (A → ℕ) → (ℕ → A) → A → Type 0
Again bytes values_in v = (bytes v < 256 ^ 7) × (values_in (bytes v) ≡ v)

no_number : (word : ℕ) → word < 256 ^ 7 → byte_in word 7 ≡ 0
unfolding byte_in
no_number word h = omega arith

-- an answer by its question's refusals
module _ {A : Type 0} {zeros : A} {last_table : ℕ} {numbers : List ℕ} {a : Answer A} (r : RefusedBy last_table numbers zeros a) where
  answered_so : Answered a → a ≡ answered a.values
  answered_so e = λ i. record { refusal = record { number = e i; table = (r.listed.of_none e).0 i; place = (r.listed.of_none e).1 i }; values = a.values }

  refused_so : a.refusal.number ≢ 0 → a ≡ refused_with zeros a.refusal.number a.refusal.table a.refusal.place
  refused_so n = λ i. record { refusal = a.refusal; values = r.else_zero n i }

  again : (bytes : A → ℕ) (values_in : ℕ → A) → last_table < 256 → every (λ n. n <? 256) (0 ∷ table_numbers numbers) ≡ true → bytes zeros ≡ 0
      → (Answered a → Again bytes values_in a.values) → TakenAgain zeros bytes values_in a
  unfolding taken
  again bytes values_in l few z f = go (ℕ_discrete a.refusal.number 0)
    where
      go : Dec (a.refusal.number ≡ 0) → taken zeros values_in (packed bytes a) ≡ a
      go (yes e) =
          let w : packed bytes a ≡ bytes a.values = ap (packed bytes) (answered_so e) ∙ packed_answered bytes a.values in
          ap (taken zeros values_in) w
          ∙ pick_t _ _ _ (eq-eqb _ 0 (no_number (bytes a.values) (f e).0))
          ∙ ap answered (f e).1
          ∙ sym (answered_so e)
      go (no n) =
          let number = a.refusal.number in
          let table = a.refusal.table in
          let place = a.refusal.place in
          let small : number < 256 = All-listed (λ n. n < 256) _ (every_true (λ n. n <? 256) (λ n. n < 256) (λ n. ltb-true n 256) _ few) number r.listed.by_number in
          let old : table < 256 = omega (arith, r.listed.of_a_table) in
          let at : place < 256 ^ 6 = omega (arith, r.listed.near) in
          let w : packed bytes a ≡ refusal_bytes number table place = ap (packed bytes) (refused_so n) ∙ packed_refused bytes zeros number table place z in
          let q = number_again number table place small old at in
          ap (taken zeros values_in) w
          ∙ pick_f _ _ _ (ne_eqb _ 0 (λ e. n (sym q ∙ e)))
          ∙ (λ i. refused_with zeros (q i) (table_again number table place small old at i) (place_again number table place small old at i))
          ∙ sym (refused_so n)

-- ---- values

byte_again : (v : ℕ) → v < 256 → Again alone byte_alone v
unfolding byte_in
byte_again v h = (omega arith, omega arith)

two_bytes_again : (v : ℕ) → v < 65536 → Again alone two_bytes_alone v
unfolding byte_in
two_bytes_again v h = (omega arith, omega arith)

-- a byte, and above it one or two more
module _ (low high : ℕ) (l : low < 256) where
  low_byte : byte_in (low + high * 256) 0 ≡ low
  unfolding byte_in
  low_byte = omega arith

  next_byte : high < 256 → byte_in (low + high * 256) 1 ≡ high
  unfolding byte_in
  next_byte h = omega arith

  next_two_bytes : high < 65536 → two_bytes_in (low + high * 256) 1 ≡ high
  unfolding byte_in
  next_two_bytes h = omega arith

reading_again : (v : Reading) → v.routers < 256 → v.links < 65536 → Again reading_bytes reading_in v
unfolding reading_bytes
reading_again v h g = (omega arith, λ i. record { routers = low_byte _ v.links h i; links = next_two_bytes _ _ h g i })

pairing_again : (v : Pairing) → v.routers < 256 → v.differ < 256 → Again pairing_bytes pairing_in v
unfolding pairing_bytes
pairing_again v h g = (omega arith, λ i. record { routers = low_byte _ v.differ h i; differ = next_byte _ _ h g i })

chosen_again : (v : ChosenHop) → v.hop < 256 → v.size < 256 → chosen_in (chosen_bytes v) ≡ v
unfolding chosen_bytes
chosen_again v h g = λ i. record { hop = low_byte _ v.size h i; size = next_byte _ _ h g i }

ending_again : (v : Ending) → v.outcome < 256 → v.router < 256 → v.hops < 256 → Again ending_bytes ending_in v
unfolding byte_in ending_bytes
ending_again v h g f = (omega arith, λ i. record { outcome = o i; router = n i; hops = k i })
  where
    o : (ending_in (ending_bytes v)).outcome ≡ v.outcome
    o = omega arith

    n : (ending_in (ending_bytes v)).router ≡ v.router
    n = omega arith

    k : (ending_in (ending_bytes v)).hops ≡ v.hops
    k = omega arith

-- what a set answers, whatever number it is
chosen_fits : (set : ℕ) → (chosen set < 256) × (size set < 256)
unfolding chosen size members
chosen_fits set = (
  All-at (λ k. k < 256) (members set) 255 (All-map (λ k h. omega (arith, h.1)) (members set) (all_those (has set) 64)) (omega arith) 0,
  omega (arith, those_at_most (has set) (below 64), length_below 64),
)

-- the code of an entry
code_fits : (t : Table) → Obeys t → (i j d : ℕ) → code (entry t i j d) < 256
code_fits t o i j d = go (entry t i j d) refl
  where
    go : (e : Entry) → entry t i j d ≡ e → code e < 256
    go deliver q = omega arith
    go discard q = omega arith
    go no_route q = omega arith
    go (forward k) q = omega (arith, (entries_forward t o i j d k q).1, o.few_routers)

-- where a packet of n routers' tables ended
path_again : (n : ℕ) (p : Path) → n ≤ 64 → p.hops < n → p.router < n → Again ending_bytes ending_in (ending p)
path_again n p s h i = ending_again (ending p) (code_of p.outcome) (omega arith) (omega arith)
  where
    code_of : (o : Outcome) → outcome_code o < 256
    code_of delivered = omega arith
    code_of discarded = omega arith
    code_of unrouted = omega arith
    code_of lost = omega arith

-- ---- names

-- a place in bytes 5 and 4
high_again : (high low : ℕ) → high < 65536 → low < 256 ^ 4 → two_bytes_in (high * 256 ^ 4 + low) 4 ≡ high
unfolding byte_in
high_again high low h l = omega arith

module _ {bytes : List ℕ} (part : Part) (f : PartFits bytes part) where
  part_again : part_in (name_bytes part 1) ≡ part
  unfolding byte_in name_bytes named_bytes
  part_again = λ i. record { table = t i; place = p i; size = s i }
    where
      t : (part_in (name_bytes part 1)).table ≡ part.table
      t = omega (arith, f.of_a_table, f.not_long)

      p : (part_in (name_bytes part 1)).place ≡ part.place
      p =
          let low : ℕ = 256 ^ 3 + part.table * 256 ^ 2 + part.size * 256 in
          let e : name_bytes part 1 ≡ part.place * 256 ^ 4 + low = omega arith in
          ap (λ w. two_bytes_in w 4) e ∙ high_again part.place low (omega (arith, f.within, f.not_far)) (omega (arith, f.of_a_table, f.not_long))

      s : (part_in (name_bytes part 1)).size ≡ part.size
      s = omega (arith, f.not_long)

  some_again : Again (name_bytes part) named_in 1
  unfolding byte_in name_bytes named_bytes
  some_again = (omega (arith, f.of_a_table, f.not_long, f.within, f.not_far), omega (arith, f.of_a_table, f.not_long))

none_again : (part : Part) → Again (name_bytes part) named_in 0
unfolding byte_in name_bytes
none_again part = (omega arith, omega arith)

-- the answer is 0, or 1 with a part that fits
named_again : {bytes : List ℕ} (part : Part) (o : Option Name) (v : ℕ) → (v ≡ 1 → PartFits bytes part) → v ≡ named o
    → Again (name_bytes part) named_in v
named_again part none v f e = subst (Again (name_bytes part) named_in) (sym e) (none_again part)
named_again part (some m) v f e = subst (Again (name_bytes part) named_in) (sym e) (some_again part (f e))

-- the number of an answer that names a part
named_word : {last_table : ℕ} {numbers : List ℕ} (part : Part) (a : Answer ℕ) → RefusedBy last_table numbers 0 a → a.values ≡ 1
    → packed (name_bytes part) a ≡ name_bytes part 1
named_word part a r v =
    ap (packed (name_bytes part)) (answered_so r (named_answered a r v)) ∙ packed_answered (name_bytes part) a.values ∙ ap (name_bytes part) v

-- ---- the questions

-- N of an accepted table
few : (bytes : List ℕ) → IsAccepted bytes → (says bytes).routers ≤ 64
few bytes a = (obeys bytes a).few_routers

pub taken_apart : TakenApart
unfolding every reading_bytes pairing_bytes ending_bytes name_bytes chosen_answer path_of entry_asked
taken_apart = record {
  of_read = λ table.
      let 𝓟 = read_proved table in
      again 𝓟.refusals _ _ (omega arith) refl refl
      (λ e.
      let o = obeys table (𝓟.exactly.asked.0 e).0 in
      subst (Again reading_bytes reading_in) (sym (𝓟.exactly.given e)) (reading_again _ (omega (arith, o.few_routers)) (omega (arith, o.few_links))));
  of_pair = λ q.
      let 𝓟 = pair_proved q in
      again 𝓟.refusals _ _ (omega arith) refl refl
      (λ e.
      let t = 𝓟.asked.0 e in
      subst (Again pairing_bytes pairing_in) (sym (𝓟.exactly.given e))
      (pairing_again _ (omega (arith, few q.new t.new_accepted)) (omega (arith, t.one_link))));
  of_fill = λ q.
      let 𝓟 = fill_proved q in
      again 𝓟.refusals _ _ (omega arith) refl refl
      (λ e. byte_again _ (omega (arith, 𝓟.exactly.given e, few q.table (𝓟.exactly.asked.0 e).0)));
  of_chosen = λ q. chosen_again _ (chosen_fits q.set).0 (chosen_fits q.set).1;
  of_entry = λ q.
      let 𝓟 = entry_proved q in
      again 𝓟.refusals _ _ (omega arith) refl refl
      (λ e.
      subst (Again alone byte_alone) (sym (𝓟.exactly.given e))
      (byte_again _ (code_fits (says q.table) (obeys q.table (𝓟.exactly.asked.0 e).0) q.router q.previous q.destination)));
  of_interfaces = λ q.
      let 𝓟 = interfaces_proved q in
      again 𝓟.refusals _ _ (omega arith) refl refl
      (λ e.
      let n = (says q.table).routers in
      let f = few q.table (𝓟.exactly.asked.0 e).0 in
      two_bytes_again _
      (omega (arith, 𝓟.exactly.given e, mul-le-mul {n₁ = n + 1} {m₁ = n} {n₂ = 65} {m₂ = 64} (omega arith) f)));
  of_path = λ q.
      let 𝓟 = path_proved q in
      again 𝓟.refusals _ _ (omega arith) refl refl
      (λ e.
      let h = 𝓟.asked.0 e in
      let l = (𝓟.demand3 h.together h.numbers (listed q.views)).general.loopless in
      subst (Again ending_bytes ending_in) (sym (𝓟.exactly.given e))
      (path_again (says q.new).routers (path_of q) (few q.new h.together.new_accepted) l.few (ends_inside l)));
  of_name = λ q.
      let 𝓟 = name_proved q in
      again 𝓟.refusals _ _ (omega arith) refl refl
      (λ e. named_again (name_part q) (name_for q.table q.router) _ 𝓟.fits (𝓟.exactly.given e));
  of_name_part = λ q v.
      let 𝓟 = name_proved q in
      ap part_in (named_word (name_part q) (name_answer q) 𝓟.refusals v) ∙ part_again (name_part q) (𝓟.fits v);
  of_two_names = λ q.
      let 𝓟 = two_names_proved q in
      again 𝓟.refusals _ _ (omega arith) refl refl
      (λ e. named_again (two_names_part q) (or_else (name_for q.new q.router) (name_for q.old q.router)) _ 𝓟.fits (𝓟.exactly.given e));
  of_two_names_part = λ q v.
      let 𝓟 = two_names_proved q in
      ap part_in (named_word (two_names_part q) (two_names_answer q) 𝓟.refusals v) ∙ part_again (two_names_part q) (𝓟.fits v);
}
