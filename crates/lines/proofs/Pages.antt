-- Bytes put on a page, one run behind another.
-- Assumes nothing.
use mathlib.Core.Path.{◌≡◌, refl, sym, ◌∙◌, ap, ap₂}
use mathlib.Core.List.{List, [], ◌++◌, append_assoc, append-nil}
use Prim.Native.Nat.{ℕ, ◌+◌}
use native.Mathlib.Nat.{zero-add, add-zero}
use native.Mathlib.Omega.{arith}
use lib.ListN.{length, take, drop, take-append-drop, length-append}
use lib.Seq.{drop-drop}
use Rattle.lines.specs.declared.Page.{Page}
use Rattle.lines.specs.Lines.{written, Puts, Writes}

pub nothing_put : (p : Page) → Puts p [] p
nothing_put p = record { lent = refl; behind = sym (add-zero p.end); more = sym (append-nil (written p)); rest = refl }

module _ {p p' : Page} {a : List ℕ} (w : Puts p a p') where
  pub put_more : {p'' : Page} {b : List ℕ} → Puts p' b p'' → Puts p (a ++ b) p''
  put_more {p''} {b} q = record {
    lent = q.lent ∙ w.lent;
    behind = omega (arith, w.behind, q.behind, length-append a b);
    more = q.more ∙ ap (λ l. l ++ b) w.more ∙ append_assoc (written p) a b;
    rest = q.rest ∙ further p'.bytes.now ∙ ap (λ l. drop (length b) l) w.rest ∙ sym (further p.bytes.now);
  }
    where
      further : (l : List ℕ) → drop p''.end l ≡ drop (length b) (drop p'.end l)
      further l = ap (λ n. drop n l) q.behind ∙ sym (drop-drop (length b) p'.end l)

  -- the same bytes, said otherwise
  pub put_as : {b : List ℕ} → a ≡ b → Puts p b p'
  put_as e = rw (← e) w

  -- on a page with nothing written on it, which is then given back
  pub put_first : {old l : List ℕ} → p.bytes.now ≡ old → p.end ≡ 0 → l ≡ p'.bytes.now → Writes old a p'.end l
  put_first same nothing e = record {
    counted = n;
    written =
        e ∙ sym (take-append-drop p'.end p'.bytes.now)
        ∙ ap₂ (λ x y. x ++ y) (w.more ∙ ap (λ n. take n p.bytes.now ++ a) nothing) (w.rest ∙ ap₂ drop n same);
  }
    where
      n : p'.end ≡ length a
      n = w.behind ∙ ap (λ n. n + length a) nothing ∙ zero-add (length a)
