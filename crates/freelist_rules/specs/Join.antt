-- A returned block among the free regions. 01, "freelist.rs": "Returns join with both neighbours."
use Rattle.std.specs.Prelude.{Bool, cond, ◌&&◌, List, [], ◌∷◌, eqb, ltb}
use Rattle.freelist_rules.specs.Records.{region}
use Rattle.freelist_rules.specs.Pieces.{lo}
use Rattle.store_rules.specs.declared.Region.{Region}

-- r ends where b starts
abbrev pub meets : Region → Region → Bool
meets r b = eqb r.chunk b.chunk && eqb r.end b.start

abbrev pub join : Region → Region → Region
join r b = region r.chunk r.start b.end

-- b before rs, joined with the first of them where they meet
abbrev pub absorb : Region → List Region → List Region
absorb b [] = b ∷ []
absorb b (r ∷ rs) = cond (meets b r) (join b r ∷ rs) (b ∷ r ∷ rs)

-- b put among rs by its place, joined with both neighbours
unfoldable pub insert : Region → List Region → List Region
insert b [] = b ∷ []
insert b (r ∷ rs) = cond (ltb (lo b) (lo r)) (absorb b (r ∷ rs)) (cond (meets r b) (absorb (join r b) rs) (r ∷ insert b rs))
