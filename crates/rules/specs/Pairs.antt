-- Two tables together: number 8.
use Rattle.std.specs.Prelude.{Bool, ◌||◌, not, ℕ, ◌+◌}
use Rattle.rules.specs.Words.{◌=?◌, ◌<?◌, tally}
use Rattle.rules.specs.Layout.{Table}
use Rattle.rules.specs.Links.{weight}

-- how many links are in only one table or have another weight: links of the old table that are missing in the new or have another weight there,
-- and links of the new table that are missing in the old
unfoldable pub differing : Table → Table → ℕ
differing old new =
    tally (λ l. not (weight new l.a l.b =? l.weight)) old.links + tally (λ l. weight old l.a l.b =? 0) new.links

-- 8: different N, or more than one link that differs. Names never count.
unfoldable pub too_different : Table → Table → Bool
too_different old new = not (old.routers =? new.routers) || 1 <? differing old new
