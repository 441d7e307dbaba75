-- Which chunks go, and how they are listed. 01, "freelist.rs": "Then every wholly free chunk except the one of the last
-- region is released; clean-up spares none. Releases are listed thus: walking up, each kept region met sends the first of
-- those marked so far to the back of their list."
use Rattle.std.specs.Prelude.{Bool, false, cond, ◌&&◌, ◌||◌, not, List, [], ◌∷◌, ◌++◌, ℕ, ◌+◌, eqb}
use Rattle.store_rules.specs.declared.Chunk.{Chunk}
use Rattle.store_rules.specs.declared.Region.{Region}

-- some chunk has this region for all of its bytes
abbrev pub covers : Region → Chunk → Bool
covers r c = eqb r.chunk c.number && (eqb r.start 0 && eqb r.end c.size)

abbrev pub wholly : List Chunk → Region → Bool
wholly [] r = false
wholly (c ∷ cs) r = covers r c || wholly cs r

-- the region is released: it covers its chunk, and it is not the spared last one
abbrev pub goes : List Chunk → Bool → Region → List Region → Bool
goes cs spare r [] = not spare && wholly cs r
goes cs spare r (d ∷ rs) = wholly cs r

-- the regions that stay
unfoldable pub staying : List Chunk → Bool → List Region → List Region
staying cs spare [] = []
staying cs spare (r ∷ rs) = cond (goes cs spare r rs) (staying cs spare rs) (r ∷ staying cs spare rs)

-- the first of a list sent to its back
abbrev pub rotated : {A : Type 0} → List A → List A
rotated [] = []
rotated (a ∷ xs) = xs ++ (a ∷ [])

-- those marked so far, and the regions still to be walked
unfoldable pub leaving : List Chunk → Bool → List Region → List Region → List Region
leaving cs spare marked [] = marked
leaving cs spare marked (r ∷ rs) = cond (goes cs spare r rs) (leaving cs spare (marked ++ (r ∷ [])) rs) (leaving cs spare (rotated marked) rs)

-- a chunk goes where a region that goes covers it
abbrev pub is_covered : List Region → Chunk → Bool
is_covered [] c = false
is_covered (r ∷ rs) c = covers r c || is_covered rs c

unfoldable pub remaining : List Region → List Chunk → List Chunk
remaining gone [] = []
remaining gone (c ∷ cs) = cond (is_covered gone c) (remaining gone cs) (c ∷ remaining gone cs)

-- the memory number and the size of a region's chunk
abbrev pub memory_of : List Chunk → Region → ℕ
memory_of [] r = 0
memory_of (c ∷ cs) r = cond (eqb r.chunk c.number) c.memory (memory_of cs r)

abbrev pub memories_of : List Chunk → List Region → List ℕ
memories_of cs [] = []
memories_of cs (r ∷ rs) = memory_of cs r ∷ memories_of cs rs

abbrev pub bytes_of : List Region → ℕ
bytes_of [] = 0
bytes_of (r ∷ rs) = r.end + bytes_of rs
