-- What the code that writes a buddy store's tables asks of them, so that no number it makes overflows and the words that it looks at
-- are there; proofs/ shows that a passed gate and a decided call give it.
use Rattle.std.specs.Prelude.{ℕ, ◌+◌, ◌-◌, ◌^◌, ◌≤◌, ◌<◌, length}
use Rattle.rounding_rules.specs.Raising.{level_of}
use Rattle.counter.specs.InTable.{BuddyIn}
use Rattle.counter.specs.Limits.{levels_most, loans_most, chunks_most, spent}
use Rattle.counter.specs.declared.answers.Block.{Block}
use Rattle.counter.specs.declared.settings.BuddySettings.{BuddySettings}
use Rattle.slabs.specs.Slab.{nowhere}
use Rattle.book_rules.specs.Book.{led_to, taken_of}
use Rattle.book_rules.specs.Ready.{Opens, Strikes}
use Rattle.buddy_trees.specs.Trees.{up}
use Rattle.buddy_rules.specs.Nodes.{free_word}
use Rattle.buddy_rules.specs.Level.{ring_head, pair_taken, acquired, added}
use Rattle.buddy_rules.specs.Tables.{Tables, levels_at, given_in, levels_in, places_in, nodes_from, level_from, chunks_from, node_of_loan}
use Rattle.buddy_rules.specs.Moves.{ready_node, left_next}
use Rattle.buddy_levels.specs.Stands.{Leaves}
use Rattle.buddy_moves.specs.Footing.{Footing}
use Rattle.buddy_moves.specs.Roomy.{Roomy}
use Rattle.buddy_outcomes.specs.Ask.{chunk_taken, head_ent, loan_from}
use Rattle.buddy_outcomes.specs.Deliver.{chunk_tables}

-- the next loan can be entered
pub record Enters (s : BuddySettings) (t : Tables) : Type 0 where
  pub fit : BuddyIn s
  pub serial : given_in t < spent
  pub opens : Opens s.store.loans (taken_of (places_in t) t.index).place t.loans t.index
  pub node : nodes_from s + ((taken_of (places_in t) t.index).place + 1) < length t.index

-- the head pair of level i can serve z bytes of level l
pub record Lends (s : BuddySettings) (z l i : ℕ) (t : Tables) : Type 0 where
  pub enters : Enters s t
  pub below : l ≤ i
  pub low : i < levels_most
  pub pair : ring_head (level_from s i) t.room < s.pairs
  pub long : chunks_from s ≤ length t.room
  pub leaves : Leaves (level_from s i) (ring_head (level_from s i) t.room) t.room
  pub offset : (head_ent s t i).off ≤ 2 ^ 62
  pub roomy : Roomy s.pairs l (loan_from s z t i).chunk (loan_from s z t i).offset (ready_node s.pairs i t.room) (i - l) (acquired (level_from s i) free_word t.room)

-- a chunk can be added, and serve as much
pub record Serves (s : BuddySettings) (l memory bytes : ℕ) (t : Tables) : Type 0 where
  pub enters : Enters s t
  pub below : l < levels_in t
  pub low : levels_in t ≤ levels_most
  pub chunk : (chunk_taken s t).place < chunks_most
  pub pair : (pair_taken (level_from s (levels_in t - 1)) t.room).place < s.pairs
  pub long : chunks_from s ≤ length t.room
  -- the chunk's own pair, which is entered first, and those behind it
  pub own : (pair_taken (level_from s (up (levels_in t - l - 1) l)) (chunk_tables s memory bytes t).room).place < s.pairs
  pub roomy : Roomy s.pairs l (chunk_taken s t).place 0 (left_next s.pairs (up (levels_in t - l - 1) l) (chunk_tables s memory bytes t).room) (levels_in t - l - 1)
      (added (level_from s (up (levels_in t - l - 1) l)) (chunk_taken s t).place 0 nowhere free_word (chunk_tables s memory bytes t).room)

-- the block that word w of the index leads to can be taken back
pub record Backs (s : BuddySettings) (b : Block) (w : ℕ) (t : Tables) : Type 0 where
  pub fit : BuddyIn s
  pub below : level_of b.size s.minimal ≤ levels_in t
  pub low : levels_in t ≤ levels_most
  pub head : levels_at < length t.head
  pub place : led_to t.index w < loans_most
  pub node : nodes_from s + (led_to t.index w + 1) < length t.index
  pub footing : Footing s.pairs (levels_in t - level_of b.size s.minimal) (level_of b.size s.minimal) (node_of_loan s t (led_to t.index w)) t.room
  pub strikes : Strikes w (led_to t.index w) t.loans t.index
