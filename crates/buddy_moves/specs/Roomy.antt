-- That a node can be split as far down as is asked: at each level on the way there is a place for the new pair.
use Rattle.std.specs.Prelude.{List, ℕ, zero, suc, ◌<◌}
use Rattle.buddy_trees.specs.Trees.{up}
use Rattle.buddy_rules.specs.Level.{pair_taken, level_start}
use Rattle.buddy_rules.specs.Moves.{left_next, split_into}

module _ (pairs : ℕ) where
  -- d levels down to level lev
  unfoldable pub Roomy : ℕ → ℕ → ℕ → ℕ → ℕ → List ℕ → Type 0
  Roomy lev c o n zero t = Unit {0}
  Roomy lev c o n (suc d) t =
      ((pair_taken (level_start pairs (up d lev)) t).place < pairs)
      × Roomy lev c o (left_next pairs (up d lev) t) d (split_into pairs (up d lev) c o n t)
