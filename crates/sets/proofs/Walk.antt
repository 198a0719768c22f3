-- A walk over the members of a set, from the lowest on: `for k in members(set)`.
-- Assumes nothing.
use mathlib.Core.Path.{◌≡◌, refl, sym, ◌∙◌, ap}
use mathlib.Core.Logic.{◌≢◌}
use mathlib.Core.Bool.{Bool, true, false}
use mathlib.Core.List.{List, [], ◌∷◌, ◌++◌, map, cons≢nil, head-eq_of_cons-eq, tail-eq_of_cons-eq}
use Prim.Native.Nat.{ℕ, zero, suc, ◌+◌, ◌-◌, ◌^◌, ◌≤◌, ◌<◌}
use native.Mathlib.Nat.{zero-add, lt_of_lt_of_le}
use native.Mathlib.Decide.{ℕ_discrete, dec_lt}
use native.Mathlib.Omega.{arith}
use lib.Bits.{bit_and}
use lib.Count.{count_trailing_zeros}
use lib.ListN.{length, get_or}
use lib.Pow.{pow_mono}
use lib.Seq.{ext_get_or}
use Rattle.rules.specs.Words.{pick, those, below}
use Rattle.rules.specs.NextHops.{has, members, set_of}
use Rattle.rules.proofs.Basics.{length_values, value_at, those_more}
use Rattle.rules.proofs.Sets.{set_below, has_below, trailing, member_below}
use Rattle.sets.proofs.Bits.{lowest_out, taken_out, others_stay}

-- ---- the list of the members

-- those of p, p + 1, .. p + n − 1 that pass a test
abbrev pub upward : (ℕ → Bool) → ℕ → ℕ → List ℕ
upward q zero p = []
upward q (suc n) p = pick (q p) (p ∷ upward q n (suc p)) (upward q n (suc p))

upward_more : (q : ℕ → Bool) (n p : ℕ) → upward q (suc n) p ≡ upward q n p ++ pick (q (n + p)) ((n + p) ∷ []) []
upward_more q zero p = rw (zero-add p) refl
upward_more q (suc n) p =
    let e : n + suc p ≡ suc n + p = omega arith in
    let h : upward q (suc n) (suc p) ≡ upward q n (suc p) ++ pick (q (suc n + p)) ((suc n + p) ∷ []) [] = rw e at (upward_more q n (suc p)) in
    go (q p) h
  where
    go : (t : Bool) → upward q (suc n) (suc p) ≡ upward q n (suc p) ++ pick (q (suc n + p)) ((suc n + p) ∷ []) []
        → pick t (p ∷ upward q (suc n) (suc p)) (upward q (suc n) (suc p))
        ≡ pick t (p ∷ upward q n (suc p)) (upward q n (suc p)) ++ pick (q (suc n + p)) ((suc n + p) ∷ []) []
    go true h = ap (λ l. p ∷ l) h
    go false h = h

upward_those : (q : ℕ → Bool) (n : ℕ) → those q (below n) ≡ upward q n 0
unfolding those below
upward_those q zero = refl
upward_those q (suc n) =
    let e : n + 0 ≡ n = omega arith in
    let m : upward q (suc n) 0 ≡ upward q n 0 ++ pick (q n) (n ∷ []) [] = rw e at (upward_more q n 0) in
    those_more q n ∙ ap (λ l. l ++ pick (q n) (n ∷ []) []) (upward_those q n) ∙ sym m

members_upward : (set : ℕ) → members set ≡ upward (has set) 64 0
unfolding members
members_upward set = upward_those (has set) 64

pub no_members : members 0 ≡ []
unfolding members those below has
no_members = refl

-- tests that agree from p on
upward_same : (q r : ℕ → Bool) (n p : ℕ) → ((j : ℕ) → p ≤ j → r j ≡ q j) → upward r n p ≡ upward q n p
upward_same q r zero p same = refl
upward_same q r (suc n) p same = rw (same p (omega arith), upward_same q r n (suc p) (λ j l. same j (omega arith)))

-- the lowest that passes q comes first, and a test that the others alone pass gives the others
upward_first : (q r : ℕ → Bool) (n p k : ℕ) → p ≤ k → k < p + n → q k ≡ true → ((j : ℕ) → j < k → q j ≡ false)
    → r k ≡ false → ((j : ℕ) → j ≢ k → r j ≡ q j) → upward q n p ≡ k ∷ upward r n p
upward_first q r zero p k l m here lower gone same = absurd (omega arith)
upward_first q r (suc n) p k l m here lower gone same =
    go (ℕ_discrete k p) (λ b c. upward_first q r n (suc p) k b c here lower gone same)
  where
    go : Dec (k ≡ p) → (suc p ≤ k → k < suc p + n → upward q n (suc p) ≡ k ∷ upward r n (suc p)) → upward q (suc n) p ≡ k ∷ upward r (suc n) p
    go (yes e) ih = rw (sym e, here, gone) (ap (λ t. k ∷ t) (sym (upward_same q r n (suc k) (λ j h. same j (omega arith)))))
    go (no a) ih =
        let f : q p ≡ false = lower p (omega arith) in
        rw (same p (omega arith), f) (ih (omega arith) (omega arith))

-- the lowest member, and the set without it
pub lowest_first : (set : ℕ) → 0 < set → set < 2 ^ 64 → members set ≡ count_trailing_zeros 64 set ∷ members (bit_and set (set - 1))
lowest_first set s b =
    members_upward set
    ∙ upward_first (has set) (has (bit_and set (set - 1))) 64 0 k (omega arith) (omega (arith, member_below set k b low.0)) low.0 lower gone same
    ∙ ap (λ l. k ∷ l) (sym (members_upward (bit_and set (set - 1))))
  where
    k : ℕ
    k = count_trailing_zeros 64 set

    low : (has set k ≡ true) × ((j : ℕ) → has set j ≡ true → k ≤ j)
    low = trailing 64 set s b

    less : bit_and set (set - 1) ≡ set - 2 ^ k
    less = omega (arith, lowest_out 64 set s b)

    lower : (j : ℕ) → j < k → has set j ≡ false
    lower j l = go (has set j) refl
      where
        go : (t : Bool) → has set j ≡ t → t ≡ false
        go true e = absurd (omega (arith, low.1 j e))
        go false e = refl

    gone : has (bit_and set (set - 1)) k ≡ false
    gone = ap (λ n. has n k) less ∙ taken_out k set low.0

    same : (j : ℕ) → j ≢ k → has (bit_and set (set - 1)) j ≡ has set j
    same j a = ap (λ n. has n j) less ∙ others_stay k set j low.0 a

-- ---- the walk

-- the walk has passed all below p, and these members are left
pub record Passed (set : ℕ) (left : List ℕ) (p : ℕ) : Type 0 where
  pub fits : set < 2 ^ 64
  pub within : p ≤ 64
  pub later : left ≡ upward (has set) (64 - p) p

pub setting_out : (set : ℕ) (left : List ℕ) → set < 2 ^ 64 → left ≡ members set → Passed set left 0
setting_out set left b e = record { fits = b; within = omega arith; later = e ∙ members_upward set }

-- one turn: the next member k, and the rest behind it
pub record Turn (set p k : ℕ) (rest : List ℕ) : Type 0 where
  pub beyond : p ≤ k
  pub router : k < 64
  pub member : has set k ≡ true
  pub skipped : (j : ℕ) → p ≤ j → j < k → has set j ≡ false
  pub passed : Passed set rest (suc k)

-- the first of those that pass
record First (q : ℕ → Bool) (n p k : ℕ) (rest : List ℕ) : Type 0 where
  beyond : p ≤ k
  inside : k < n + p
  passes : q k ≡ true
  skipped : (j : ℕ) → p ≤ j → j < k → q j ≡ false
  behind : rest ≡ upward q (n + p - suc k) (suc k)

first_upward : (q : ℕ → Bool) (n p k : ℕ) (rest : List ℕ) → upward q n p ≡ k ∷ rest → First q n p k rest
first_upward q zero p k rest e = absurd (cons≢nil (sym e))
first_upward q (suc n) p k rest e = go (q p) refl e (first_upward q n (suc p) k rest)
  where
    over : (j : ℕ) → p ≤ j → q p ≡ false → Dec (j ≡ p) → (suc p ≤ j → q j ≡ false) → q j ≡ false
    over j l h (yes e) r = ap q e ∙ h
    over j l h (no a) r = r (omega arith)

    go : (t : Bool) → q p ≡ t → pick t (p ∷ upward q n (suc p)) (upward q n (suc p)) ≡ k ∷ rest
        → (upward q n (suc p) ≡ k ∷ rest → First q n (suc p) k rest) → First q (suc n) p k rest
    go true h e ih =
        let m : suc n + p - suc p ≡ n = omega arith in
        rw (sym (head-eq_of_cons-eq e)) record {
          beyond = omega arith;
          inside = omega arith;
          passes = h;
          skipped = λ j a b. absurd (omega arith);
          behind = rw m (sym (tail-eq_of_cons-eq e));
        }
    go false h e ih =
        let f = ih e in
        let m : n + suc p - suc k ≡ suc n + p - suc k = omega arith in record {
          beyond = omega (arith, f.beyond);
          inside = omega (arith, f.inside);
          passes = f.passes;
          skipped = λ j a b. over j a h (ℕ_discrete j p) (λ l. f.skipped j l b);
          behind = rw m at f.behind;
        }

-- none passes
upward_none : (q : ℕ → Bool) (n p : ℕ) → upward q n p ≡ [] → (j : ℕ) → p ≤ j → j < n + p → q j ≡ false
upward_none q zero p e j l m = absurd (omega arith)
upward_none q (suc n) p e j l m = go (q p) refl e (λ f a. upward_none q n (suc p) f j a (omega arith)) (ℕ_discrete j p)
  where
    go : (t : Bool) → q p ≡ t → pick t (p ∷ upward q n (suc p)) (upward q n (suc p)) ≡ []
        → (upward q n (suc p) ≡ [] → suc p ≤ j → q j ≡ false) → Dec (j ≡ p) → q j ≡ false
    go true h e ih d = absurd (cons≢nil e)
    go false h e ih (yes i) = ap q i ∙ h
    go false h e ih (no a) = ih e (omega arith)

module _ (set : ℕ) (left : List ℕ) (p : ℕ) (w : Passed set left p) where
  pub next_member : (k : ℕ) (rest : List ℕ) → left ≡ k ∷ rest → Turn set p k rest
  next_member k rest e =
      let f = first_upward (has set) (64 - p) p k rest (sym w.later ∙ e) in
      let m : 64 - p + p - suc k ≡ 64 - suc k = omega (arith, w.within) in record {
        beyond = f.beyond;
        router = omega (arith, w.within, f.inside);
        member = f.passes;
        skipped = f.skipped;
        passed = record { fits = w.fits; within = omega (arith, w.within, f.inside); later = rw m at f.behind };
      }

  -- at the end no member is left from p on
  pub at_end : left ≡ [] → (k : ℕ) → p ≤ k → has set k ≡ false
  at_end e k h = go (dec_lt k 64)
    where
      go : Dec (k < 64) → has set k ≡ false
      go (yes l) = upward_none (has set) (64 - p) p (sym w.later ∙ e) k h (omega (arith, w.within))
      go (no l) = has_below set 64 k w.fits (omega arith)

-- a set that is made on the way: routers that are passed over add nothing
pub passed_over : (q : ℕ → Bool) (p n : ℕ) → p ≤ n → ((j : ℕ) → p ≤ j → j < n → q j ≡ false) → set_of q n ≡ set_of q p
unfolding set_of
passed_over q zero zero h f = refl
passed_over q (suc p) zero h f = absurd (omega arith)
passed_over q p (suc n) h f = go (ℕ_discrete p (suc n)) (passed_over q p n)
  where
    go : Dec (p ≡ suc n) → (p ≤ n → ((j : ℕ) → p ≤ j → j < n → q j ≡ false) → set_of q n ≡ set_of q p) → set_of q (suc n) ≡ set_of q p
    go (yes e) ih = ap (set_of q) (sym e)
    go (no a) ih = ap (λ t. pick t (2 ^ n) 0 + set_of q n) (f n (omega arith) (omega arith)) ∙ zero-add (set_of q n) ∙ ih (omega arith) (λ j l m. f j l (omega arith))

-- the routers below p that pass a test are in the set
pub record Made (q : ℕ → Bool) (made p : ℕ) : Type 0 where
  pub routers : p ≤ 64
  pub so_far : made ≡ set_of q p

module _ (q : ℕ → Bool) where
  pub none_made : Made q 0 0
  unfolding set_of
  none_made = record { routers = omega arith; so_far = refl }

  module _ (made p : ℕ) (m : Made q made p) where
    pub made_fits : made < 2 ^ 64
    made_fits = rw m.so_far (lt_of_lt_of_le (set_below q p) (pow_mono m.routers))

    -- one more: its bit, if it passes
    pub one_made : (k : ℕ) → p ≤ k → k < 64 → ((j : ℕ) → p ≤ j → j < k → q j ≡ false) → (r : ℕ) → r ≡ pick (q k) (2 ^ k) 0 → Made q (made + r) (suc k)
    unfolding set_of
    one_made k h l skipped r e = record { routers = l; so_far = omega (arith, e, m.so_far, passed_over q p k h skipped) }

    pub all_made : ((j : ℕ) → p ≤ j → q j ≡ false) → made ≡ set_of q 64
    all_made over = m.so_far ∙ sym (passed_over q p 64 m.routers (λ j l u. over j l))

-- ---- an array that is changed on the way

-- below p its values are those of f, from p on they are the old ones; d stands for what lies behind its end
pub record Changed (d : ℕ) (f : ℕ → ℕ) (old now : List ℕ) (p : ℕ) : Type 0 where
  pub done : (j : ℕ) → j < p → get_or now j d ≡ f j
  pub yet : (j : ℕ) → p ≤ j → get_or now j d ≡ get_or old j d

module _ (d : ℕ) (f : ℕ → ℕ) (old : List ℕ) where
  pub none_changed : Changed d f old old 0
  none_changed = record { done = λ j h. absurd (omega arith); yet = λ j h. refl }

  module _ (now : List ℕ) (p : ℕ) (c : Changed d f old now p) where
    -- one more, where f changes none that is passed over
    pub one_changed : (k : ℕ) → p ≤ k → ((j : ℕ) → p ≤ j → j < k → f j ≡ get_or old j d) → (next : List ℕ)
        → ((j : ℕ) → j ≢ k → get_or next j d ≡ get_or now j d) → get_or next k d ≡ f k → Changed d f old next (suc k)
    one_changed k h skipped next same here = record {
      done = λ j l. go j l (ℕ_discrete j k) (dec_lt j p);
      yet = λ j l. same j (omega arith) ∙ c.yet j (omega arith);
    }
      where
        go : (j : ℕ) → j < suc k → Dec (j ≡ k) → Dec (j < p) → get_or next j d ≡ f j
        go j l (yes e) b = rw e here
        go j l (no a) (yes b) = same j a ∙ c.done j b
        go j l (no a) (no b) = same j a ∙ c.yet j (omega arith) ∙ sym (skipped j (omega arith) (omega arith))

    -- at the end the array is f's values
    pub all_changed : (n : ℕ) → length now ≡ n → ((j : ℕ) → p ≤ j → f j ≡ get_or old j d) → now ≡ map f (below n)
    all_changed n long over =
        ext_get_or d now (map f (below n)) (long ∙ sym (length_values f n))
        (λ j l. go j (dec_lt j p) ∙ sym (value_at f n j d (omega (arith, long))))
      where
        go : (j : ℕ) → Dec (j < p) → get_or now j d ≡ f j
        go j (yes b) = c.done j b
        go j (no b) = c.yet j (omega arith) ∙ sym (over j (omega arith))
