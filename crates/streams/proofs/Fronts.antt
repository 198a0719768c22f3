-- Known bytes that grew by a front part of some bytes, where more stand in front of those or behind them.
-- Assumes nothing.
use Rattle.std.proofs.Common.{◌≡◌, ℕ, zero, suc, ◌+◌, List, [], ◌∷◌, ◌++◌, length, take, refl, sym, ap, ◌∙◌, subst, Ok, Err}
use Rattle.std.proofs.Math.Seq.{take-append-add}
use Rattle.std.proofs.KnownBytes.{Appends-trans}
use Rattle.std.specs.declared.option.Option.{Option}
use Rattle.std.specs.declared.result.Result.{Result}
use Rattle.std.specs.Result.{OnErr}
use Rattle.std.specs.Io.KnownBytes.{Appends}
use Rattle.streams.specs.Streams.{AppendsFront}

-- a front part of a list is one of a longer list
front_of_longer : (n : ℕ) (xs ys : List ℕ) → (m : ℕ) × (take m (xs ++ ys) ≡ take n xs)
front_of_longer zero xs ys = (0, refl)
front_of_longer (suc n) [] ys = (0, refl)
front_of_longer (suc n) (x ∷ xs) ys = let m = front_of_longer n xs ys in (suc m.0, ap (λ l. x ∷ l) m.1)

-- all of xs was written, and then a front part of ys
pub front_behind : (a b c : Option (List ℕ)) (xs ys zs : List ℕ) → Appends a b xs → AppendsFront b c ys → AppendsFront a c (xs ++ (ys ++ zs))
front_behind a b c xs ys zs p q =
    let m = front_of_longer q.0 ys zs in
    let joined : xs ++ take q.0 ys ≡ take (length xs + m.0) (xs ++ (ys ++ zs)) =
    ap (λ l. xs ++ l) (sym m.1) ∙ sym (take-append-add xs (ys ++ zs) m.0) in
    (length xs + m.0, subst (Appends a c) joined (Appends-trans a b c xs _ p q.1))

-- a front part of ys was written
pub front_alone : (a c : Option (List ℕ)) (ys zs : List ℕ) → AppendsFront a c ys → AppendsFront a c (ys ++ zs)
front_alone a c ys zs q =
    let m = front_of_longer q.0 ys zs in
    (m.0, subst (Appends a c) (sym m.1) q.1)

-- what holds whatever is answered holds on an error
pub on_err : {T E P : Type 0} (r : Result T E) → P → OnErr r P
on_err (Ok x) p = tt
on_err (Err e) p = p
