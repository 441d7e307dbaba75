-- What the walk down a chunk asks for, and what it leaves of a count at a loan and at a pair.
use Rattle.std.specs.Prelude.{cond, ◌&&◌, List, ℕ, ◌+◌, ◌*◌, ◌-◌, ◌≤◌, ◌<◌, ltb, length, get_or}
use Rattle.counter.specs.Limits.{pairs_most, loans_most}
use Rattle.counter.specs.declared.settings.BuddySettings.{BuddySettings}
use Rattle.slabs.specs.Slab.{nowhere}
use Rattle.store_rules.specs.Loans.{places_at, loan_words}
use Rattle.book_rules.specs.Book.{index_words}
use Rattle.buddy_trees.specs.Trees.{bytes}
use Rattle.buddy_rules.specs.Nodes.{L, R, node_of}
use Rattle.buddy_rules.specs.Level.{used_at, level_words, level_start}
use Rattle.buddy_rules.specs.Tables.{Tables, columns, pairs_in}
use Rattle.buddy_rules.specs.Test.{leaf_ok, entry_ok, and_then, left_node}

-- of k pairs and loans still to be met, how many are left when loan q has been met, which is to be node n of level l
unfoldable pub left_leaf : BuddySettings → Tables → ℕ → ℕ → ℕ → ℕ → ℕ → ℕ → ℕ
left_leaf s t q c l o n k = cond (ltb 0 k && leaf_ok s t q c l o n) (k - 1) nowhere

-- and when the pair p has been walked, which node n of level l + 1 is split into: its entry and its two halves
unfoldable pub left_pair : BuddySettings → Tables → ℕ → ℕ → ℕ → ℕ → ℕ → ℕ → ℕ
left_pair s t l c o n p k =
    cond (ltb 0 k && entry_ok s t (pairs_in s t l p) c o n)
    (and_then
    (left_node s t l c o (node_of p L) (pairs_in s t l p).left (k - 1))
    (left_node s t l c (o + bytes s.minimal l) (node_of p R) (pairs_in s t l p).right))
    nowhere

-- the tables have the words of every place that was ever used: of the loans, of their nodes in the index, and of the pairs of the
-- first `levels` levels. So nothing that a walk of these levels leads to lies past an end
pub record Within (levels pairs most : ℕ) (loans index tree : List ℕ) : Type 0 where
  pub few_pairs : pairs ≤ pairs_most
  pub few_loans : most ≤ loans_most
  pub few_places : get_or loans places_at 0 ≤ most
  pub loans_there : loan_words + loan_words * most ≤ length loans
  pub nodes_there : index_words most + columns * (most + 1) ≤ length index
  pub pairs_there : (l : ℕ) → l < levels → level_start pairs l + level_words (get_or tree (level_start pairs l + used_at) 0) ≤ length tree
