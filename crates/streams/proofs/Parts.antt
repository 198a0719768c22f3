-- What stands in a part behind the first bytes, written or read, makes the first bytes more.
-- Assumes nothing.
use Rattle.std.proofs.Common.{◌≡◌, ℕ, ◌+◌, ◌-◌, ◌≤◌, List, ◌++◌, length, take, drop, sym, ap, ap₂, ◌∙◌, subst, arith, le_refl, drop_at, take_all, length-drop, length-take-le}
use Rattle.std.proofs.Math.Seq.{take-add}
use Rattle.std.proofs.lemmas.List.{take-append-le}
use Rattle.std.proofs.lemmas.Slice.{take-put_mid_below}
use Rattle.std.proofs.KnownBytes.{Appends-trans, Consumes-trans}
use Rattle.std.specs.declared.option.Option.{Option}
use Rattle.std.specs.Io.KnownBytes.{Appends, Consumes}
use borrow.Rule.Slice.PartMut.{put_mid, post_of}

-- the bytes that are left to be written
abbrev left : List ℕ → ℕ → List ℕ
left bytes done = take (length bytes - done) (drop done bytes)

all_left : (bytes : List ℕ) (done : ℕ) → left bytes done ≡ drop done bytes
all_left bytes done = take_all (length bytes - done) (drop done bytes) (omega (arith, length-drop done bytes))

-- n of them are written
pub written_more : (a b c : Option (List ℕ)) (bytes : List ℕ) (done n : ℕ) → done ≤ length bytes → n ≤ length (left bytes done)
    → Appends a b (take done bytes) → Appends b c (take n (left bytes done)) → (done + n ≤ length bytes) × Appends a c (take (done + n) bytes)
written_more a b c bytes done n within fits before more =
    let rest = all_left bytes done in
    let joined : take done bytes ++ take n (left bytes done) ≡ take (done + n) bytes =
    ap (λ l. take done bytes ++ take n l) rest ∙ sym (take-add done n bytes) in
    (omega (arith, ap length rest, length-drop done bytes), subst (Appends a c) joined (Appends-trans a b c _ _ before more))

-- n bytes are read into the part behind the first bytes
pub read_more : (a b c : Option (List ℕ)) (array part : List ℕ) (done room n : ℕ) → done ≤ length array → n ≤ length part
    → Consumes a b (take done array) → Consumes b c (take n part) → Consumes a c (take (done + n) (put_mid done room array part))
read_more a b c array part done room n within fits before more =
    let after = put_mid done room array part in
    let behind : take n (drop done after) ≡ take n part =
    ap (take n) (drop_at (take done array) (part ++ post_of done room array) done (length-take-le done array within)) ∙ take-append-le n part (post_of done room array) fits in
    let joined : take done array ++ take n part ≡ take (done + n) after =
    ap₂ (λ l m. l ++ m) (sym (take-put_mid_below done room array part done (le_refl done) within)) (sym behind) ∙ sym (take-add done n after) in
    subst (Consumes a c) joined (Consumes-trans a b c _ _ before more)
