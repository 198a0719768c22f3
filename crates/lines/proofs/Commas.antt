-- A set's members, joined by commas, as they come on a page one by one.
-- Assumes nothing.
use mathlib.Core.Path.{◌≡◌, refl, sym, ◌∙◌, ap}
use mathlib.Core.List.{List, [], ◌∷◌, ◌++◌, map, map-append, append_assoc}
use Prim.Native.Nat.{ℕ, ◌+◌, ◌*◌, ◌≤◌, ◌<◌}
use native.Mathlib.Omega.{arith}
use lib.ListN.{length, length-append}
use Rattle.rules.specs.Words.{below, text, text_from, All}
use Rattle.rules.specs.NextHops.{has, members}
use Rattle.rules.specs.Listing.{decimal, joined_by_commas}
use Rattle.rules.proofs.Basics.{those_at_most, length_below, all_those, All-map}
use Rattle.lines.proofs.Decimals.{router_digits}

-- ---- texts joined

joined_more : (x : List ℕ) (xs : List (List ℕ)) (y : List ℕ) → joined_by_commas (x ∷ (xs ++ (y ∷ []))) ≡ joined_by_commas (x ∷ xs) ++ text "," ++ y
unfolding joined_by_commas
joined_more x [] y = refl
joined_more x (z ∷ zs) y =
    ap (λ l. x ++ text "," ++ l) (joined_more z zs y ∙ append_assoc (joined_by_commas (z ∷ zs)) (text ",") y)
    ∙ sym (append_assoc (x ++ text "," ++ joined_by_commas (z ∷ zs)) (text ",") y ∙ append_assoc (x ++ text ",") (joined_by_commas (z ∷ zs)) (text "," ++ y))

joined_longer : (x : List ℕ) (xs ys : List (List ℕ)) → length (joined_by_commas (x ∷ xs)) ≤ length (joined_by_commas (x ∷ (xs ++ ys)))
unfolding joined_by_commas
joined_longer x [] [] = omega arith
joined_longer x [] (y ∷ ys) = omega (arith, length-append {A = ℕ})
joined_longer x (z ∷ zs) ys = omega (arith, joined_longer z zs ys, length-append {A = ℕ})

-- routers' numbers take at most three bytes each
joined_short : (ks : List ℕ) → All (λ k. k < 64) ks → length (joined_by_commas (map decimal ks)) ≤ 3 * length ks
unfolding joined_by_commas text_from
joined_short [] h = omega arith
joined_short (k ∷ []) h = omega (arith, router_digits k h.0)
joined_short (k ∷ m ∷ ms) h =
    omega (arith, router_digits k h.0, length-append {A = ℕ}, joined_short (m ∷ ms) h.1)

pub short_members : (set : ℕ) → length (joined_by_commas (map decimal (members set))) ≤ 192
unfolding members
short_members set =
    omega (
      arith,
      joined_short (members set) (All-map (λ k m. omega arith) (members set) (all_those (has set) 64)),
      those_at_most (has set) (below 64),
      length_below 64,
    )

-- ---- members one by one

pub no_members_joined : (set : ℕ) → members set ≡ [] → joined_by_commas (map decimal (members set)) ≡ []
unfolding joined_by_commas
no_members_joined set e = ap (λ ks. joined_by_commas (map decimal ks)) e

module _ (k : ℕ) (ks : List ℕ) (m : ℕ) where
  pub next_joined : joined_by_commas (map decimal (k ∷ (ks ++ (m ∷ [])))) ≡ joined_by_commas (map decimal (k ∷ ks)) ++ (44 ∷ []) ++ decimal m
  unfolding text_from
  next_joined =
      ap (λ ds. joined_by_commas (decimal k ∷ ds)) (map-append decimal ks (m ∷ [])) ∙ joined_more (decimal k) (map decimal ks) (decimal m)

  -- room for a comma and the next member
  pub room_for_next : (set : ℕ) (rest : List ℕ) → members set ≡ k ∷ (ks ++ (m ∷ rest))
      → length (joined_by_commas (map decimal (k ∷ ks))) + (1 + length (decimal m)) ≤ 192
  room_for_next set rest e =
      omega (
        arith,
        short_members set,
        ap (λ ds. length (joined_by_commas ds)) all,
        joined_longer (decimal k) (map decimal (ks ++ (m ∷ []))) (map decimal rest),
        ap length next_joined,
        length-append {A = ℕ},
      )
    where
      all : map decimal (members set) ≡ decimal k ∷ (map decimal (ks ++ (m ∷ [])) ++ map decimal rest)
      all =
          ap (map decimal) (e ∙ ap (λ l. k ∷ l) (sym (append_assoc ks (m ∷ []) rest)))
          ∙ ap (λ ds. decimal k ∷ ds) (map-append decimal (ks ++ (m ∷ [])) rest)

pub room_for_first : (set k : ℕ) (rest : List ℕ) → members set ≡ k ∷ rest → length (decimal k) ≤ 192
unfolding joined_by_commas
room_for_first set k rest e =
    omega (arith, short_members set, ap (λ ks. length (joined_by_commas (map decimal ks))) e, joined_longer (decimal k) [] (map decimal rest))
