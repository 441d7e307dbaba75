-- How many of the chunks that are wholly free stay.
use Rattle.std.specs.Prelude.{Bool, cond, ◌&&◌, List, ℕ, ◌-◌, ltb, length, get_or}
use Rattle.store_rules.specs.declared.Chunk.{Chunk}
use Rattle.store_rules.specs.declared.Region.{Region}
use Rattle.freelist_rules.specs.Release.{wholly}
use Rattle.freelist_rules.specs.Steps.{no_region}

-- that of the last region, where it is spared
unfoldable pub spared_in : List Chunk → Bool → List Region → ℕ
spared_in cs spare rs = cond (spare && (ltb 0 (length rs) && wholly cs (get_or rs (length rs - 1) no_region))) 1 0
