-- When a buddy store's tables are sound, as 01 defines it.
use Rattle.std.specs.Prelude.{◌≡◌, true, ℕ, ◌+◌, ◌%◌, ◌≤◌, ◌<◌}
use Rattle.counter.specs.Limits.{levels_most}
use Rattle.counter.specs.declared.settings.BuddySettings.{BuddySettings}
use Rattle.slabs.specs.Slab.{nowhere, Parted}
use Rattle.book_rules.specs.Book.{serial_of}
use Rattle.book_rules.specs.Chains.{Chained}
use Rattle.buddy_trees.specs.Trees.{Tree, Taken, Piece, Wf, Has, bytes}
use Rattle.buddy_rules.specs.Nodes.{vacant, Rep}
use Rattle.buddy_rules.specs.Stores.{piece}
use Rattle.buddy_rules.specs.Level.{Good}
use Rattle.buddy_rules.specs.Tables.{Tables, Signed, marks, given_in, levels_in, places_in, memory_in, chunk_size_in, level_from, pairs_in, loan_cell, loan_in, live_in, held_in, high_in, top_in, vacant_chunk, chunk_after, chunk_slab, vacant_loan, loan_after, loan_slab, chain_start, chain_next, initial_levels}
use Rattle.store_rules.specs.Loans.{size_at}

-- demand 3's filling: each held chunk is a tree whose pieces fill it, no pair of them both free, and never wholly free; its
-- words stand for that tree, parents included
pub record Trees (s : BuddySettings) (t : Tables) : Type 0 where
  -- "buddy chunk sizes are minimal x 2^L"
  pub sized : (c : ℕ) → held_in t c ≡ true
      → (chunk_size_in t c ≡ bytes s.minimal (high_in s t c)) × (0 < high_in s t c) × (initial_levels s ≤ high_in s t c) × (high_in s t c ≤ levels_in t)
  pub trees : ℕ → Tree
  pub taken : (c : ℕ) → held_in t c ≡ true → Taken (trees c)
  pub wf : (c : ℕ) → held_in t c ≡ true → Wf (high_in s t c) (trees c)
  pub rep : (c : ℕ) → held_in t c ≡ true → Rep s.minimal (pairs_in s t) (loan_in s t) c (high_in s t c) 0 nowhere (top_in s t c) (trees c)
  -- every pair in use is one of a held chunk's tree
  pub owned : (l p : ℕ) → l < levels_in t → vacant < (pairs_in s t l p).tag
      → (held_in t (pairs_in s t l p).chunk ≡ true) × (l < high_in s t (pairs_in s t l p).chunk) × ((pairs_in s t l p).off < chunk_size_in t (pairs_in s t l p).chunk)
  -- loans are the trees' leaves, one for one
  pub loans_sized : (k : ℕ) → live_in t k ≡ true → loan_cell t size_at k ≡ bytes s.minimal (loan_in s t k).lev
  pub has : (k : ℕ) → live_in t k ≡ true
      → (held_in t (loan_in s t k).chunk ≡ true) × Has s.minimal (high_in s t (loan_in s t k).chunk) 0 (trees (loan_in s t k).chunk) (piece (loan_in s t k) k)
  pub is_live : (c k : ℕ) (y : Piece) → held_in t c ≡ true → Has s.minimal (high_in s t c) 0 (trees c) y → y.who ≡ k + 1 → live_in t k ≡ true

pub record Sound (s : BuddySettings) (t : Tables) : Type 0 where
  pub signed : Signed marks t
  -- "L from the greater of 1 and the initial levels to the levels now, never below the initial"; "buddy levels: at most 32"
  pub levels_least : initial_levels s ≤ levels_in t
  pub levels_most_lem : levels_in t ≤ levels_most
  -- "vacant chains agree": used and vacant places part, of loans and of chunks; the index leads to each loan by its serial:
  -- "loans have distinct serials", and "only numbers already given out"
  pub loans_parted : Parted (vacant_loan t) (loan_after t) (loan_slab t) s.store.loans
  pub chained : Chained (vacant_loan t) (chain_start t) (chain_next t) (serial_of t.loans) s.store.loans (places_in t) (given_in t)
  pub chunks_parted : Parted (vacant_chunk t) (chunk_after s t) (chunk_slab s t) s.store.chunks
  -- "held memory numbers differ"
  pub memories_differ : (c d : ℕ) → held_in t c ≡ true → held_in t d ≡ true → memory_in t c ≡ memory_in t d → c ≡ d
  -- "rings .. agree": of each level, the ring has exactly the pairs with one free side, and used and vacant places part
  pub good : (l : ℕ) → l < levels_in t → Good (level_from s l) s.pairs t.room
  pub standing : Trees s t
  -- "alignment to atom and node size": where a node lies follows from its tree, and a loan is of whole atom units
  pub loans_units : (k : ℕ) → live_in t k ≡ true → ((loan_in s t k).at % (s.store.atom + 1) ≡ 0) × (loan_cell t size_at k % (s.store.atom + 1) ≡ 0)
