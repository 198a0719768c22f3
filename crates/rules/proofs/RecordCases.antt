-- One record: each test of the reading step is the case of document 01's list that it stands for, so the step is bad exactly by the first case that
-- applies, and good exactly where none does.
-- Assumes nothing.
use mathlib.Core.Path.{◌≡◌, refl, sym, ◌∙◌, ap, subst}
use mathlib.Core.Logic.{◌⊎◌, inl, inr, ◌↔◌}
use mathlib.Core.Bool.{Bool, true, false, ◌&&◌, ◌||◌, not, false≢true}
use mathlib.Core.List.{List, [], ◌∷◌}
use Prim.Native.Nat.{ℕ, suc, ◌+◌, ◌*◌, ◌≤◌, ◌<◌}
use native.Mathlib.Decide.{ℕ_discrete, dec_lt, dec_le}
use native.Mathlib.Omega.{arith}
use lib.Dec.{eqb, ltb, leb}
use lib.ListN.{length, drop}
use borrow.Author.Tests.{ltb-true, leb-true, eqb-true, eqb-false, lt-ltb, le-leb, ne_eqb}
use Rattle.rules.specs.Words.{pick, every, tally, Some}
use Rattle.rules.specs.Layout.{tag_routers, tag_name, tag_link, tag_end}
use Rattle.rules.specs.Table.{byte, two_bytes, Record, link_of, known_tag, length_allowed, routers_fit, name_byte, name_fits, link_fits, contents_fit, key, Kept, nothing_kept, keep, bad_tag, not_above, too_many, Step, good, bad, record_in, step}
use Rattle.rules.specs.ListedCases.{BadTag, unknown, first_not_routers, second_routers, below_one_before, Allowed, for_routers, for_name, for_link, for_end, Outside, OutOfRange, routers_out, named_router_out, name_byte_out, a_out, b_out, weight_out, a_not_below_b, PairAbove, NotAbove, name_not_above, link_not_above, Link257, routers_told, Given, FirstGiven, NoneGiven, listed_cases}
use Rattle.rules.proofs.Basics.{both, neither}
use Rattle.rules.proofs.Records.{InOrder, tag_order, order_tag}
use Rattle.rules.proofs.Judging.{size_in, contents_in, Good, Steps, gives, refuses, steps, step_good}
use Rattle.rules.proofs.FirstCases.{done, test, Tested, by_case, by_none, tested, one_first, none_first, Fails, fails_lt, fails_le, fails_and, fails_every, not_fails}

-- ---- what is kept of the records before

abbrev pub kept_by : List Record → Kept
kept_by [] = nothing_kept
kept_by (r ∷ before) = keep (kept_by before) r

kept_routers : (before : List Record) → (kept_by before).routers ≡ routers_told before
unfolding keep routers_told
kept_routers [] = refl
kept_routers (r ∷ before) = rw (kept_routers before)

kept_links : (before : List Record) → (kept_by before).links ≡ tally (λ r. eqb r.tag tag_link) before
unfolding keep tally
kept_links [] = refl
kept_links (r ∷ before) = omega (arith, kept_links before)

-- of good records: the nearest has a tag, and the end b of a link is one byte; the first is the one with tag 0x01
abbrev pub Started : List Record → Type 0
Started [] = Unit {0}
Started (r ∷ before) =
    (1 ≤ r.tag) × (r.tag ≡ tag_link → byte r.contents 1 < 256) × Some (λ s. s.tag ≡ tag_routers) (r ∷ before)

pub record Sound (before : List Record) : Type 0 where
  pub started : Started before
  pub few : routers_told before ≤ 64

-- ---- each test is the case that it stands for

-- 2
unknown_tag : (before : List Record) (tag : ℕ) → known_tag tag ≡ false → BadTag before tag
unfolding known_tag
unknown_tag before tag e =
    let a = neither (eqb tag tag_routers || eqb tag tag_name || eqb tag tag_link) (eqb tag tag_end) e in
    let b = neither (eqb tag tag_routers || eqb tag tag_name) (eqb tag tag_link) a.0 in
    let c = neither (eqb tag tag_routers) (eqb tag tag_name) b.0 in
    unknown (eqb-false tag tag_routers c.0) (eqb-false tag tag_name c.1) (eqb-false tag tag_link b.1) (eqb-false tag tag_end a.1)

tag_found : (before : List Record) → Started before → (tag : ℕ) → bad_tag (kept_by before) tag ≡ true → BadTag before tag
unfolding keep
tag_found before s tag e = go before s e (known_tag tag) refl (ℕ_discrete tag tag_routers)
  where
    go : (before : List Record) → Started before → bad_tag (kept_by before) tag ≡ true → (k : Bool) → known_tag tag ≡ k → Dec (tag ≡ tag_routers)
        → BadTag before tag
    go before s e false k d = unknown_tag before tag k
    go [] s e true k (no n) = first_not_routers n
    go [] s e true k (yes q) =
        absurd (false≢true (sym (order_tag nothing_kept tag (record { is_known = k; first_routers = λ h. q; no_second = omega arith; not_below = omega arith })) ∙ e))
    go (r ∷ before) s e true k (yes q) = rw q (second_routers s.2)
    go (r ∷ before) s e true k (no n) =
        elim (dec_lt tag r.tag) [
          | yes l ↦ below_one_before l
          | no l ↦
              absurd (false≢true (sym (order_tag (kept_by (r ∷ before)) tag (record {
                is_known = k;
                first_routers = λ h. absurd (omega (arith, s.0));
                no_second = λ h. n;
                not_below = omega arith;
              })) ∙ e))
        ]

tag_against : (before : List Record) → Started before → (tag : ℕ) → BadTag before tag → ¬ InOrder (kept_by before) tag
unfolding keep known_tag
tag_against before s tag (unknown r n l d) o =
    false≢true (rw (ne_eqb tag tag_routers r, ne_eqb tag tag_name n, ne_eqb tag tag_link l, ne_eqb tag tag_end d) at o.is_known)
tag_against before s tag (first_not_routers n) o = n (o.first_routers refl)
tag_against [] s tag (second_routers m) o = m
tag_against (r ∷ before) s tag (second_routers m) o = o.no_second s.0 refl
tag_against before s tag (below_one_before l) o = absurd (omega (arith, o.not_below))

-- a test that is known to find a case, and not to miss it
test_is : {P : Type 0} (t : Bool) → (t ≡ true → P) → (t ≡ false → ¬ P) → (t ≡ true) ↔ P
test_is true f g = (f, λ p. refl)
test_is false f g = (f, λ p. absurd (g refl p))

tag_tests : (before : List Record) → Started before → (tag : ℕ) → (bad_tag (kept_by before) tag ≡ true) ↔ BadTag before tag
tag_tests before s tag =
    test_is (bad_tag (kept_by before) tag) (tag_found before s tag)
    (λ e b. tag_against before s tag b (tag_order (kept_by before) tag e))

-- 3
pub allowed : (tag len : ℕ) → length_allowed tag len ≡ true → Allowed tag len
unfolding length_allowed
allowed tag len = go (eqb tag tag_routers) refl (eqb tag tag_name) refl (eqb tag tag_link) refl (eqb tag tag_end) refl
  where
    go : (a : Bool) → eqb tag tag_routers ≡ a → (b : Bool) → eqb tag tag_name ≡ b → (c : Bool) → eqb tag tag_link ≡ c → (d : Bool) → eqb tag tag_end ≡ d
        → pick a (eqb len 1) (pick b (leb 2 len && leb len 17) (pick c (eqb len 4) (pick d (eqb len 0) false))) ≡ true → Allowed tag len
    go true p b q c r d s e = rw (eqb-true tag tag_routers p, eqb-true len 1 e) for_routers
    go false p true q c r d s e =
        let (l, h) = both (leb 2 len) (leb len 17) e in
        rw (eqb-true tag tag_name q) (for_name (leb-true 2 len l) (leb-true len 17 h))
    go false p false q true r d s e = rw (eqb-true tag tag_link r, eqb-true len 4 e) for_link
    go false p false q false r true s e = rw (eqb-true tag tag_end s, eqb-true len 0 e) for_end
    go false p false q false r false s e = absurd (false≢true e)

allows : {tag len : ℕ} → Allowed tag len → length_allowed tag len ≡ true
unfolding length_allowed
allows for_routers = refl
allows (for_name {len = len} l h) = rw (le-leb 2 len l, le-leb len 17 h)
allows for_link = refl
allows for_end = refl

length_tests : (tag len : ℕ) → (not (length_allowed tag len) ≡ true) ↔ (¬ Allowed tag len)
length_tests tag len =
    not_fails (length_allowed tag len) (λ e a. false≢true (sym e ∙ allows a), λ n. go (length_allowed tag len) refl n)
  where
    go : (t : Bool) → length_allowed tag len ≡ t → (¬ Allowed tag len) → t ≡ false
    go true e n = absurd (n (allowed tag len e))
    go false e n = refl

-- 4
Outside-fails : (low high x : ℕ) → Fails (leb low x && leb x high) (Outside low high x)
Outside-fails low high x = fails_and (leb low x) (leb x high) (fails_le low x) (fails_le x high)

name_fails : (n : ℕ) (c : List ℕ) → Fails (name_fits n (byte c 0) (drop 1 c)) ((n ≤ byte c 0) ⊎ Some (Outside 0x21 0x7E) (drop 1 c))
unfolding name_fits name_byte
name_fails n c =
    fails_and (ltb (byte c 0) n) (every name_byte (drop 1 c)) (fails_lt (byte c 0) n) (fails_every name_byte (Outside-fails 0x21 0x7E) (drop 1 c))

link_fails : (n : ℕ) (c : List ℕ)
    → Fails (link_fits n (link_of c)) (((((n ≤ byte c 0) ⊎ (n ≤ byte c 1)) ⊎ (byte c 1 ≤ byte c 0)) ⊎ (two_bytes c 2 < 1)) ⊎ (65535 < two_bytes c 2))
unfolding link_fits
link_fails n c =
    fails_and _ (leb (two_bytes c 2) 65535) (fails_and _ (leb 1 (two_bytes c 2)) (fails_and _ (ltb (byte c 0) (byte c 1))
    (fails_and (ltb (byte c 0) n) (ltb (byte c 1) n) (fails_lt (byte c 0) n) (fails_lt (byte c 1) n)) (fails_lt (byte c 0) (byte c 1)))
    (fails_le 1 (two_bytes c 2))) (fails_le (two_bytes c 2) 65535)

range_found : (n tag : ℕ) (c : List ℕ) → contents_fit n tag c ≡ false → OutOfRange n tag c
unfolding contents_fit routers_fit
range_found n tag c = go (eqb tag tag_routers) refl (eqb tag tag_name) refl (eqb tag tag_link) refl
  where
    of_name : (n ≤ byte c 0) ⊎ Some (Outside 0x21 0x7E) (drop 1 c) → OutOfRange n tag_name c
    of_name (inl r) = named_router_out r
    of_name (inr b) = name_byte_out b

    of_link : ((((n ≤ byte c 0) ⊎ (n ≤ byte c 1)) ⊎ (byte c 1 ≤ byte c 0)) ⊎ (two_bytes c 2 < 1)) ⊎ (65535 < two_bytes c 2) → OutOfRange n tag_link c
    of_link (inl (inl (inl (inl a)))) = a_out a
    of_link (inl (inl (inl (inr b)))) = b_out b
    of_link (inl (inl (inr o))) = a_not_below_b o
    of_link (inl (inr w)) = weight_out (inl w)
    of_link (inr w) = weight_out (inr w)

    go : (x : Bool) → eqb tag tag_routers ≡ x → (y : Bool) → eqb tag tag_name ≡ y → (z : Bool) → eqb tag tag_link ≡ z
        → pick x (leb 1 (byte c 0) && leb (byte c 0) 64) (pick y (name_fits n (byte c 0) (drop 1 c)) (pick z (link_fits n (link_of c)) true)) ≡ false
        → OutOfRange n tag c
    go true p y q z r e = rw (eqb-true tag tag_routers p) (routers_out ((Outside-fails 1 64 (byte c 0)).0 e))
    go false p true q z r e = rw (eqb-true tag tag_name q) (of_name ((name_fails n c).0 e))
    go false p false q true r e = rw (eqb-true tag tag_link r) (of_link ((link_fails n c).0 e))
    go false p false q false r e = absurd (false≢true (sym e))

range_fails : {n tag : ℕ} {c : List ℕ} → OutOfRange n tag c → contents_fit n tag c ≡ false
unfolding contents_fit routers_fit
range_fails {c = c} (routers_out h) = (Outside-fails 1 64 (byte c 0)).1 h
range_fails {n} {c = c} (named_router_out h) = (name_fails n c).1 (inl h)
range_fails {n} {c = c} (name_byte_out h) = (name_fails n c).1 (inr h)
range_fails {n} {c = c} (a_out h) = (link_fails n c).1 (inl (inl (inl (inl h))))
range_fails {n} {c = c} (b_out h) = (link_fails n c).1 (inl (inl (inl (inr h))))
range_fails {n} {c = c} (weight_out (inl h)) = (link_fails n c).1 (inl (inr h))
range_fails {n} {c = c} (weight_out (inr h)) = (link_fails n c).1 (inr h)
range_fails {n} {c = c} (a_not_below_b h) = (link_fails n c).1 (inl (inl (inr h)))

range_tests : (before : List Record) (tag : ℕ) (c : List ℕ)
    → (not (contents_fit (kept_by before).routers tag c) ≡ true) ↔ OutOfRange (routers_told before) tag c
range_tests before tag c =
    let n = routers_told before in
    rw (kept_routers before) (not_fails (contents_fit n tag c) (range_found n tag c, range_fails))

-- 5: pairs whose second number is one byte rise as the numbers of two bytes do
pairs_above : (a b a' b' : ℕ) → b < 256 → b' < 256 → (¬ PairAbove a b a' b') ↔ (a * 256 + b ≤ a' * 256 + b')
pairs_above a b a' b' s s' = (low, high)
  where
    low : ¬ PairAbove a b a' b' → a * 256 + b ≤ a' * 256 + b'
    low n =
        elim (dec_lt a' a) [
          | yes l ↦ absurd (n (inl l))
          | no l ↦ elim (ℕ_discrete a a') [
            | yes e ↦ elim (dec_lt b' b) [ yes m ↦ absurd (n (inr (e, m))) | no m ↦ omega arith ]
            | no e ↦ omega arith
          ]
        ]

    high : a * 256 + b ≤ a' * 256 + b' → ¬ PairAbove a b a' b'
    high h (inl l) = absurd (omega arith)
    high h (inr (e, m)) = absurd (omega arith)

ends_small : (n : ℕ) → n ≤ 64 → (tag : ℕ) (c : List ℕ) → ¬ OutOfRange n tag c → tag ≡ tag_link → byte c 1 < 256
ends_small n few tag c r e = elim (dec_lt (byte c 1) n) [ yes h ↦ omega arith | no h ↦ absurd (r (rw e (b_out {c = c} (omega arith)))) ]

order_found : (before : List Record) → Started before → (tag : ℕ) (c : List ℕ) → (tag ≡ tag_link → byte c 1 < 256)
    → not_above (kept_by before) tag c ≡ true → NotAbove before tag c
unfolding not_above keep key
order_found [] s tag c small e =
    let (f, l) = both ((eqb tag tag_name || eqb tag tag_link) && eqb tag 0) _ e in
    let (o, t) = both (eqb tag tag_name || eqb tag tag_link) (eqb tag 0) f in
    absurd (false≢true (rw (eqb-true tag 0 t) at o))
order_found (r ∷ before) s tag c small e =
    let (f, l) = both ((eqb tag tag_name || eqb tag tag_link) && eqb tag r.tag) _ e in
    let (o, t) = both (eqb tag tag_name || eqb tag tag_link) (eqb tag r.tag) f in
    go (eqb-true tag r.tag t) (leb-true (key tag c) (key r.tag r.contents) l) (eqb tag tag_name) refl (eqb tag tag_link) refl o
  where
    go : tag ≡ r.tag → key tag c ≤ key r.tag r.contents → (x : Bool) → eqb tag tag_name ≡ x → (y : Bool) → eqb tag tag_link ≡ y → (x || y) ≡ true
        → NotAbove (r ∷ before) tag c
    go t l true p y q o =
        let n = eqb-true tag tag_name p in
        rw n (name_not_above {r = r} {c = c} (sym t ∙ n) (omega (arith, ap (λ x. key x c) n, ap (λ x. key x r.contents) (sym t ∙ n))))
    go t l false p true q o =
        let n = eqb-true tag tag_link q in
        rw n (link_not_above {r = r} {c = c} (sym t ∙ n) ((pairs_above _ _ _ _ (small n) (s.1 (sym t ∙ n))).1
        (omega (arith, ap (λ x. key x c) n, ap (λ x. key x r.contents) (sym t ∙ n)))))
    go t l false p false q o = absurd (false≢true o)

order_holds : (before : List Record) → Started before → (tag : ℕ) (c : List ℕ) → (tag ≡ tag_link → byte c 1 < 256)
    → NotAbove before tag c → not_above (kept_by before) tag c ≡ true
unfolding not_above keep key
order_holds before s tag c small (name_not_above {r = r} t h) = rw (t, le-leb (byte c 0) (byte r.contents 0) h)
order_holds before s tag c small (link_not_above {r = r} t h) =
    rw (t, le-leb (two_bytes c 0) (two_bytes r.contents 0) ((pairs_above _ _ _ _ (small refl) (s.1 t)).0 h))

order_tests : (before : List Record) → Started before → (tag : ℕ) (c : List ℕ) → (tag ≡ tag_link → byte c 1 < 256)
    → (not_above (kept_by before) tag c ≡ true) ↔ NotAbove before tag c
order_tests before s tag c small = (order_found before s tag c small, order_holds before s tag c small)

-- 6
count_tests : (before : List Record) (tag : ℕ) → (too_many (kept_by before) tag ≡ true) ↔ Link257 before tag
unfolding too_many
count_tests before tag = (
  λ e.
      let (t, m) = both (eqb tag tag_link) (leb 256 (kept_by before).links) e in
      (eqb-true tag tag_link t, omega (arith, leb-true 256 (kept_by before).links m, kept_links before)),
  λ h. rw (h.0, le-leb 256 (kept_by before).links (omega (arith, h.1, kept_links before))),
)

-- ---- the step

-- all tests in their order
step_tested : (before : List Record) → Sound before → (place : ℕ) (left : List ℕ)
    → Tested place (listed_cases before left) (good (record_in place left) (place + 3 + size_in left)) (step (kept_by before) place left)
unfolding step
step_tested before s place left =
    tested _
    (test (ltb-true (length left) 3, lt-ltb (length left) 3) λ headed.
    test (tag_tests before s.started tag) λ tagged.
    test (length_tests tag (size_in left)) λ sized.
    test (ltb-true (length left) (3 + size_in left), lt-ltb (length left) (3 + size_in left)) λ whole.
    test (range_tests before tag contents) λ fits.
    test (order_tests before s.started tag contents (ends_small (routers_told before) s.few tag contents fits)) λ above.
    test (count_tests before tag) λ few.
    done)
  where
    tag : ℕ
    tag = byte left 0

    contents : List ℕ
    contents = contents_in left

-- 0 for a good record, and one more than the number of a bad one
abbrev pub badness : Step → ℕ
badness (good r end) = 0
badness (bad number place) = suc number

module _ (before : List Record) (s : Sound before) (place : ℕ) (left : List ℕ) where
  abbrev cases : List Given
  cases = listed_cases before left

  abbrev next : Step
  next = good (record_in place left) (place + 3 + size_in left)

  -- the step is bad exactly by the first case that applies
  pub bad_first : {number at : ℕ} → step (kept_by before) place left ≡ bad number at → FirstGiven cases number
  bad_first {number} {at} e = go (step_tested before s place left) e
    where
      go : {t : Step} → Tested place cases next t → t ≡ bad number at → FirstGiven cases number
      go (by_case m f) e = subst (FirstGiven cases) (omega (arith, ap badness e)) f
      go (by_none f) e = absurd (omega (arith, ap badness e))

  pub first_bad : {number : ℕ} → FirstGiven cases number → step (kept_by before) place left ≡ bad number place
  first_bad {number} f = go (step_tested before s place left)
    where
      go : {t : Step} → Tested place cases next t → t ≡ bad number place
      go (by_case m g) = ap (λ n. bad n place) (one_first cases m number g f)
      go (by_none g) = absurd (none_first cases number g f)

  -- and a record is good exactly where no case applies
  pub good_none : Good (kept_by before) left → NoneGiven cases
  good_none g = go (step_tested before s place left) (step_good (kept_by before) place left g)
    where
      go : {t : Step} → Tested place cases next t → t ≡ next → NoneGiven cases
      go (by_case m f) e = absurd (omega (arith, ap badness e))
      go (by_none f) e = f

  pub none_good : NoneGiven cases → Good (kept_by before) left
  none_good f = go (steps (kept_by before) place left) (step_tested before s place left) refl
    where
      go : {t u : Step} → Steps (kept_by before) place left t → Tested place cases next u → t ≡ u → Good (kept_by before) left
      go (gives g) x e = g
      go (refuses number a b) (by_case m g) e = absurd (none_first cases m f g)
      go (refuses number a b) (by_none g) e = absurd (omega (arith, ap badness e))

-- a tag that allows a length is above 0
some_tag : {tag len : ℕ} → Allowed tag len → 1 ≤ tag
some_tag for_routers = omega arith
some_tag (for_name l h) = omega arith
some_tag for_link = omega arith
some_tag for_end = omega arith

-- a good record behind good ones
pub sound_on : (before : List Record) → Sound before → (place : ℕ) (left : List ℕ) → Good (kept_by before) left → NoneGiven (listed_cases before left)
    → Sound (record_in place left ∷ before)
unfolding routers_told
sound_on before s place left g n = record {
  started = (
    some_tag (allowed (byte left 0) (size_in left) g.sized),
    ends_small (routers_told before) s.few (byte left 0) (contents_in left) out,
    begun before s.started n.1.0,
  );
  few = few (eqb (byte left 0) tag_routers) refl;
}
  where
    out : ¬ OutOfRange (routers_told before) (byte left 0) (contents_in left)
    out = n.1.1.1.1.0

    begun : (before : List Record) → Started before → ¬ BadTag before (byte left 0) → Some (λ r. r.tag ≡ tag_routers) (record_in place left ∷ before)
    begun [] s b = elim (ℕ_discrete (byte left 0) tag_routers) [ yes e ↦ inl e | no e ↦ absurd (b (first_not_routers e)) ]
    begun (r ∷ before) s b = inr s.2

    few : (t : Bool) → eqb (byte left 0) tag_routers ≡ t → pick t (byte (contents_in left) 0) (routers_told before) ≤ 64
    few true e =
        elim (dec_le (byte (contents_in left) 0) 64) [
          | yes h ↦ h
          | no h ↦ absurd (out (rw (eqb-true (byte left 0) tag_routers e) (routers_out {c = contents_in left} (inr (omega arith)))))
        ]
    few false e = s.few
