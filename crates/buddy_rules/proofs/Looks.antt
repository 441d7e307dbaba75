-- Whether the walk down a chunk passes, without its count: no code runs it, but what it says of the trees is what the walk that
-- counts down is shown to say.
use mathlib.Core.Bool.{Bool, true, false, cond, ◌&&◌, ◌||◌, not}
use Prim.Native.Nat.{ℕ, zero, suc, ◌+◌}
use lib.Dec.{eqb, leb, ltb}
use Rattle.counter.specs.declared.settings.BuddySettings.{BuddySettings}
use Rattle.slabs.specs.Slab.{nowhere}
use Rattle.buddy_trees.specs.Trees.{bytes}
use Rattle.buddy_rules.specs.Nodes.{free_word, says_loan, loan_said, pair_said, L, R, node_of}
use Rattle.buddy_rules.specs.Tables.{Tables, levels_in, chunk_size_in, pairs_in, held_in, high_in, top_in, initial_levels}
use Rattle.buddy_rules.specs.Test.{leaf_ok, entry_ok}

module _ (s : BuddySettings) (t : Tables) where
  -- node n of level l at o of chunk c, whose word is w
  unfoldable pub node_ok : ℕ → ℕ → ℕ → ℕ → ℕ → Bool
  node_ok zero c o n w = cond (eqb w free_word) true (cond (says_loan w) (leaf_ok s t (loan_said w) c zero o n) false)
  node_ok (suc l) c o n w =
      cond (eqb w free_word) true
      (cond (says_loan w) (leaf_ok s t (loan_said w) c (suc l) o n)
      (entry_ok s t (pairs_in s t l (pair_said w)) c o n
      && (node_ok l c o (node_of (pair_said w) L) (pairs_in s t l (pair_said w)).left
      && node_ok l c (o + bytes s.minimal l) (node_of (pair_said w) R) (pairs_in s t l (pair_said w)).right)))

  -- the chunk at place c, where there is one: its size, and its nodes; "a buddy store holds no wholly free chunk"
  unfoldable pub chunk_ok : ℕ → Bool
  chunk_ok c =
      not (held_in t c)
      || (eqb (chunk_size_in t c) (bytes s.minimal (high_in s t c))
      && (ltb 0 (high_in s t c)
      && (leb (initial_levels s) (high_in s t c)
      && (leb (high_in s t c) (levels_in t) && (not (eqb (top_in s t c) free_word) && node_ok (high_in s t c) c 0 nowhere (top_in s t c))))))
