-- What calls may leave of a reader or a writer whose bytes are known, where one of them may have failed.
use Rattle.std.specs.Prelude.{ℕ, List, take}
use Rattle.std.specs.declared.option.Option.{Option}
use Rattle.std.specs.Io.KnownBytes.{Appends, Consumes}

-- known bytes grow by a front part of bs
abbrev pub AppendsFront : Option (List ℕ) → Option (List ℕ) → List ℕ → Type 0
AppendsFront old new bs = (n : ℕ) × Appends old new (take n bs)

-- known bytes are read off from the front only
abbrev pub Shrinks : Option (List ℕ) → Option (List ℕ) → Type 0
Shrinks old new = (bs : List ℕ) × Consumes old new bs

-- known bytes stay, and more may stand behind them
unfoldable pub Grows : Option (List ℕ) → Option (List ℕ) → Type 0
Grows old new = (bs : List ℕ) × Appends old new bs
