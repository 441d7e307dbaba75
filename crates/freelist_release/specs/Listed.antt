-- The chunks whose memory numbers are not listed.
use Rattle.std.specs.Prelude.{Bool, false, cond, ◌||◌, List, [], ◌∷◌, ℕ, eqb}
use Rattle.store_rules.specs.declared.Chunk.{Chunk}

-- x stands in the list
unfoldable pub among : ℕ → List ℕ → Bool
among x [] = false
among x (y ∷ l) = eqb x y || among x l

-- the chunks whose memory number is none of those
unfoldable pub unlisted : List ℕ → List Chunk → List Chunk
unlisted ms [] = []
unlisted ms (c ∷ cs) = cond (among c.memory ms) (unlisted ms cs) (c ∷ unlisted ms cs)
