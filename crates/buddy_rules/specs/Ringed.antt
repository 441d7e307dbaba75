-- The order of a level's ring: which pairs stand in it, the head first.
use Rattle.std.specs.Prelude.{cond, List, [], ◌∷◌, ◌++◌, ℕ, ◌+◌, eqb}
use Rattle.lists.specs.Members.{Below}
use Rattle.ring_rules.specs.Ring.{RingOf}
use Rattle.buddy_rules.specs.Level.{ring_at, next_at, prev_at, pair_words, field_at}

-- the links from the head on lead through the pairs of R in this order, and back to the head; all are among `pairs` places. Of the
-- level whose words begin at b there is one R at most (proofs/Ringed)
pub record Ringed (b pairs : ℕ) (t R : List ℕ) : Type 0 where
  pub rings : RingOf (b + ring_at) (field_at b next_at) (field_at b prev_at) pair_words t R
  pub below : Below pairs R

-- what stands before p, and past it
unfoldable pub before_in : ℕ → List ℕ → List ℕ
before_in p [] = []
before_in p (x ∷ l) = cond (eqb x p) [] (x ∷ before_in p l)

unfoldable pub past_in : ℕ → List ℕ → List ℕ
past_in p [] = []
past_in p (x ∷ l) = cond (eqb x p) l (past_in p l)

-- p out of a ring. 01: "the head becomes that pair's next even if it wasn't the head": the rest from the one after it on
unfoldable pub out_of : ℕ → List ℕ → List ℕ
out_of p R = past_in p R ++ before_in p R

-- a ring without its head. 01: "the head becomes its next"
unfoldable pub tail_of : List ℕ → List ℕ
tail_of [] = []
tail_of (x ∷ l) = l
