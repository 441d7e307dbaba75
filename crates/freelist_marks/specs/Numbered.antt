-- The chunk with a number, and the chunk that a region is all of.
use Rattle.std.specs.Prelude.{Bool, cond, Option, Some, None, List, [], ◌∷◌, ℕ, eqb}
use Rattle.store_rules.specs.declared.Chunk.{Chunk}
use Rattle.store_rules.specs.declared.Region.{Region}
use Rattle.freelist_rules.specs.Release.{wholly}

-- the first of the chunks that has the number
unfoldable pub numbered : ℕ → List Chunk → Option Chunk
numbered n [] = None
numbered n (c ∷ cs) = cond (eqb n c.number) (Some c) (numbered n cs)

-- the chunk that the region is all of
abbrev pub whole_in : List Chunk → Region → Option Chunk
whole_in cs r = cond (wholly cs r) (numbered r.chunk cs) None

-- the same where the region is not spared
abbrev pub going : List Chunk → Bool → Region → Option Chunk
going cs spared r = cond spared None (whole_in cs r)
