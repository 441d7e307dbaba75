-- The rings of a buddy store's levels, each by its pairs with the head first, and what becomes of them as a block is lent and as one
-- comes back. 01, "buddy.rs".
use Rattle.std.specs.Prelude.{cond, ◌&&◌, List, [], ◌∷◌, ◌++◌, ℕ, zero, suc, ◌<◌, eqb, leb, ltb}
use Rattle.counter.specs.declared.settings.BuddySettings.{BuddySettings}
use Rattle.slabs.specs.Slab.{nowhere}
use Rattle.buddy_rules.specs.Nodes.{free_word, Ent, other, pair_of, word}
use Rattle.buddy_rules.specs.Stores.{with}
use Rattle.buddy_rules.specs.Ringed.{Ringed, out_of, tail_of}
use Rattle.buddy_rules.specs.Tables.{Tables, levels_in, level_from}
use Rattle.buddy_rules.specs.Moves.{side_in}

-- W l are the pairs of level l's ring in its order
abbrev pub Rings : BuddySettings → Tables → (ℕ → List ℕ) → Type 0
Rings s t W = (l : ℕ) → l < levels_in t → Ringed (level_from s l) s.pairs t.room (W l)

-- a block of level lev is lent out of level i: "the head becomes its next" there; each level from lev to below i, which had no ready
-- pair, has a new one, at the place `new_place` of it; the other rings stay
unfoldable pub rings_lent : (ℕ → ℕ) → ℕ → ℕ → (ℕ → List ℕ) → ℕ → List ℕ
rings_lent new_place lev i W l = cond (eqb l i) (tail_of (W l)) (cond (leb lev l && ltb l i) (new_place l ∷ []) (W l))

-- node n of level l was given back, with at most f levels to climb; E are the pairs' entries before. "When its twin is ready, the
-- pair goes, the head becomes that pair's next even if it wasn't the head, and the return goes on one level up"; else the pair
-- "joins the ring before the head, or as head if the ring is empty"
unfoldable pub rings_back : (ℕ → ℕ → Ent) → ℕ → ℕ → ℕ → (ℕ → List ℕ) → ℕ → List ℕ
rings_back E zero l n W = W
rings_back E (suc f) l n W =
    cond (eqb n nowhere) W
    (cond (eqb (word (other (side_in n)) (E l (pair_of n))) free_word)
    (rings_back E f (suc l) (E l (pair_of n)).up (with W l (out_of (pair_of n) (W l))))
    (with W l (W l ++ (pair_of n ∷ []))))

-- levels are added past the first n: they have no pair
unfoldable pub rings_grown : ℕ → (ℕ → List ℕ) → ℕ → List ℕ
rings_grown n W l = cond (ltb l n) (W l) []
