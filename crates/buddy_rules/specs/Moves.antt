-- What a return and a loan do to a buddy store's tree, in words. 01, "buddy.rs".
use Rattle.std.specs.Prelude.{Bool, true, false, cond, List, ℕ, zero, suc, eqb, set}
use Rattle.slabs.specs.Slab.{nowhere}
use Rattle.buddy_trees.specs.Trees.{up}
use Rattle.buddy_rules.specs.Nodes.{free_word, loan_word, split_word, L, node_of, pair_of, other, word}
pub use Rattle.buddy_rules.specs.Levels.{side_in}
use Rattle.buddy_rules.specs.Levels.{side_of}
use Rattle.buddy_rules.specs.Level.{side_at, pair_cell, ent_of, ring_head, pair_taken, dropped, backed, added, level_start}

-- whether the climb came out above the chunk's top, and the tree
pub record Climbed : Type 0 where
  pub freed : Bool
  pub room : List ℕ

-- the node that is lent, and the tree
pub record Cut : Type 0 where
  pub node : ℕ
  pub room : List ℕ

module _ (pairs : ℕ) where
  -- ---- a return

  -- node n of level l was given back, with at most f levels to climb: "When its twin is ready, the pair goes, .. and the return
  -- goes on one level up", else the pair is ready at that side
  unfoldable pub climbed : ℕ → ℕ → ℕ → List ℕ → Climbed
  climbed zero l n t = record { freed = true; room = t }
  climbed (suc f) l n t =
      cond (eqb n nowhere) (record { freed = true; room = t })
      (cond (eqb (word (other (side_in n)) (ent_of (level_start pairs l) t (pair_of n))) free_word)
      (climbed f (suc l) (ent_of (level_start pairs l) t (pair_of n)).up (dropped (level_start pairs l) (pair_of n) t))
      (record { freed = false; room = backed (level_start pairs l) (pair_of n) (side_in n) t }))

  -- ---- a loan

  -- node n of level l has the word w from now on
  unfoldable pub worded : ℕ → ℕ → ℕ → List ℕ → List ℕ
  worded l n w t = set t (pair_cell (level_start pairs l) (side_at (side_in n)) (pair_of n)) w

  -- the left node of the pair that level l takes next
  abbrev pub left_next : ℕ → List ℕ → ℕ
  left_next l t = node_of (pair_taken (level_start pairs l) t).place L

  -- node n of level l + 1, at o of chunk c, is split into that pair
  abbrev pub split_into : ℕ → ℕ → ℕ → ℕ → List ℕ → List ℕ
  split_into l c o n t = worded (suc l) n (split_word (pair_taken (level_start pairs l) t).place) (added (level_start pairs l) c o n free_word t)

  -- node n, d levels above lev, at o of chunk c, is split down to level lev and lent as k: "always keeping the left"
  unfoldable pub split_down : ℕ → ℕ → ℕ → ℕ → ℕ → ℕ → List ℕ → Cut
  split_down lev c o k n zero t = record { node = n; room = worded lev n (loan_word k) t }
  split_down lev c o k n (suc d) t = split_down lev c o k (left_next (up d lev) t) d (split_into (up d lev) c o n t)

  -- a new chunk c, whose pair is d levels above lev: that pair is entered, and its left node split down and lent as k. The word of
  -- the chunk's top node stands with the chunk, and is no node's of a level
  unfoldable pub split_chunk : ℕ → ℕ → ℕ → ℕ → List ℕ → Cut
  split_chunk lev c k d t = split_down lev c 0 k (left_next (up d lev) t) d (added (level_start pairs (up d lev)) c 0 nowhere free_word t)

  -- the ready side of level i's head pair, as a node
  abbrev pub ready_node : ℕ → List ℕ → ℕ
  ready_node i t = node_of (ring_head (level_start pairs i) t) (side_of (ent_of (level_start pairs i) t (ring_head (level_start pairs i) t)).tag)
