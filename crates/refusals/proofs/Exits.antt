-- What the exit of a `?` returns.
-- Assumes nothing.
use mathlib.Core.Path.{◌≡◌, ap}
use Rattle.std.specs.Prelude.{Result, Ok, Err, IsErrAnd}

-- the error that was met, where it is handed on as it is
pub exit_is : {T E : Type 0} {d : E} (r : Result T E) → IsErrAnd r (λ y. y ≡ d) → r ≡ Err d
exit_is (Ok x) p = absurd p
exit_is (Err y) p = ap Err p
