-- Known bytes of a writer grow by what is written, and by calls that each leave them grown.
-- Assumes nothing.
use Rattle.std.proofs.Common.{ℕ, List, [], ◌++◌, take, Ok, Err}
use Rattle.std.proofs.KnownBytes.{Appends-nil, Appends-trans}
use Rattle.std.specs.declared.option.Option.{Option}
use Rattle.std.specs.declared.result.Result.{Result}
use Rattle.std.specs.Result.{OnOk, OnErr}
use Rattle.std.specs.Io.KnownBytes.{Appends}
use Rattle.streams.specs.Streams.{Grows, AppendsFront}

-- nothing is written
pub grows_by_none : (a : Option (List ℕ)) → Grows a a
unfolding Grows
grows_by_none a = ([], Appends-nil a)

-- one call after the other: a writer as it was, between them and behind them
pub grows_in_turn : {W : Type 0} (contents : W → Option (List ℕ)) (x y z : W) → Grows (contents x) (contents y) → Grows (contents y) (contents z)
    → Grows (contents x) (contents z)
unfolding Grows
grows_in_turn contents x y z p q = (p.0 ++ q.0, Appends-trans _ _ _ p.0 q.0 p.1 q.1)

-- bytes are written whole, or a front part of them before an error
pub grows_by_written : {T E : Type 0} (r : Result T E) (a b : Option (List ℕ)) (bs : List ℕ) → OnOk r (Appends a b bs) → OnErr r (AppendsFront a b bs) → Grows a b
unfolding Grows
grows_by_written (Ok x) a b bs p q = (bs, p)
grows_by_written (Err e) a b bs p q = (take q.0 bs, q.1)
