-- What the walk down a chunk, and the test of a chunk, read: no more than their numbers and lists.
use mathlib.Core.Path.{◌≡◌, refl}
use mathlib.Core.Bool.{cond, ◌&&◌}
use Prim.Native.Nat.{ℕ, zero, suc, ◌+◌, ◌-◌}
use lib.Dec.{eqb, ltb}
use Rattle.counter.specs.declared.settings.BuddySettings.{BuddySettings}
use Rattle.slabs.specs.Slab.{nowhere}
use Rattle.buddy_trees.specs.Trees.{bytes}
use Rattle.buddy_rules.specs.Nodes.{free_word, says_loan, loan_said, pair_said, Ent, L, R, node_of}
use Rattle.buddy_levels.specs.Seen.{part_settings, part_tables, loan_part}
use Rattle.buddy_rules.specs.Tables.{Tables, levels_in, pairs_in}
use Rattle.buddy_rules.specs.Test.{leaf_ok, entry_ok, and_then, left_node, left_chunk, left_chunks}

module _ (s : BuddySettings) (t : Tables) where
  abbrev numbers : BuddySettings
  numbers = part_settings s.minimal s.pairs s.store.loans

  abbrev shown : Tables
  shown = loan_part t.loans t.index t.room

  -- an entry by itself says all that is asked of it
  pub entry_shows : (z : BuddySettings) (v : Tables) (e : Ent) (c o n : ℕ) → entry_ok s t e c o n ≡ entry_ok z v e c o n
  unfolding entry_ok
  entry_shows z v e c o n = refl

  -- nor does a leaf ask for more than the loans and their nodes
  leaf_by : (k c l o n : ℕ) → leaf_ok s t k c l o n ≡ leaf_ok numbers shown k c l o n
  unfolding leaf_ok
  leaf_by k c l o n = refl

  pub node_shows : (l c o n w k : ℕ) → left_node s t l c o n w k ≡ left_node numbers shown l c o n w k
  unfolding left_node
  node_shows zero c o n w k =
      λ i. cond (eqb w free_word) k (cond (says_loan w) (cond (ltb 0 k && leaf_by (loan_said w) c zero o n i) (k - 1) nowhere) nowhere)
  node_shows (suc l) c o n w k =
      let e = pairs_in s t l (pair_said w) in
      λ i. cond (eqb w free_word) k
      (cond (says_loan w) (cond (ltb 0 k && leaf_by (loan_said w) c (suc l) o n i) (k - 1) nowhere)
      (cond (ltb 0 k && entry_shows numbers shown e c o n i)
      (and_then (node_shows l c o (node_of (pair_said w) L) e.left (k - 1) i) (λ (m : ℕ). node_shows l c (o + bytes s.minimal l) (node_of (pair_said w) R) e.right m i))
      nowhere))

module _ (s : BuddySettings) (t : Tables) where
  abbrev seen : Tables
  seen = part_tables (levels_in t) t.loans t.chunks t.index t.room

  chunk_shows : (c k : ℕ) → left_chunk s t c k ≡ left_chunk s seen c k
  unfolding left_chunk
  chunk_shows c k = rw (node_shows s t, node_shows s seen)

  pub chunks_show : (n k : ℕ) → left_chunks s t n k ≡ left_chunks s seen n k
  unfolding left_chunks
  chunks_show zero k = refl
  chunks_show (suc n) k = λ i. and_then (chunks_show n k i) (λ (m : ℕ). chunk_shows n m i)
