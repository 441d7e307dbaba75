-- The test of a buddy store, and of its trees first: a walk down each chunk, as 01 has it, that counts down from the pairs that the
-- levels' chains leave in use and the loans. Where it is right and ends at 0 it has met every one of them, so no chain lacks a vacated
-- place; and the count of leaves then tells that no ring lacks a ready pair.
use Rattle.std.specs.Prelude.{Bool, true, cond, ◌&&◌, ◌||◌, not, List, [], ◌∷◌, ℕ, zero, suc, ◌+◌, ◌-◌, ◌%◌, eqb, leb, ltb}
use Rattle.counter.specs.declared.settings.BuddySettings.{BuddySettings}
use Rattle.slabs.specs.Slab.{nowhere}
use Rattle.store_rules.specs.Loans.{size_at}
use Rattle.buddy_trees.specs.Trees.{bytes}
use Rattle.buddy_rules.specs.Nodes.{free_word, says_loan, loan_said, pair_said, Ent, L, R, node_of, tag_of}
use Rattle.buddy_rules.specs.Tables.{Tables, signed_ok, marks, given_in, memory_in, vacant_loan, loan_after, loan_slab, chain_start, chain_next, vacant_chunk, chunk_after, chunk_slab, levels_in, places_in, chunk_places_in, chunk_size_in, level_from, pairs_in, loan_cell, loan_in, live_in, held_in, high_in, top_in, initial_levels}
use Rattle.lists.specs.Tests.{all}
use Rattle.counter.specs.Limits.{levels_most}
use Rattle.slabs.specs.Test.{vacancies, parted_ok}
use Rattle.book_rules.specs.Book.{serial_of}
use Rattle.book_rules.specs.Chains.{chains_ok}
use Rattle.buddy_rules.specs.LevelTest.{ringed, in_use, level_ok}

-- p holds of each number below n
abbrev pub every : (ℕ → Bool) → ℕ → Bool
every p zero = true
every p (suc n) = every p n && p n

-- what f makes of m, or nowhere where a count is torn already
unfoldable pub and_then : ℕ → (ℕ → ℕ) → ℕ
and_then m f = cond (eqb m nowhere) nowhere (f m)

-- how many loans are live
unfoldable pub live_count : Tables → ℕ
live_count t = places_in t - vacancies (vacant_loan t) (places_in t)

-- how many chunks are held
unfoldable pub held_count : Tables → ℕ
held_count t = chunk_places_in t - vacancies (vacant_chunk t) (chunk_places_in t)

module _ (s : BuddySettings) (t : Tables) where
  -- ---- down from the top: "A node is free, on loan, or split into a pair, and a pair is its two nodes"

  -- loan k is node n, of level l at o of chunk c
  unfoldable pub leaf_ok : ℕ → ℕ → ℕ → ℕ → ℕ → Bool
  leaf_ok k c l o n =
      live_in t k
      && (eqb (loan_in s t k).chunk c
      && (eqb (loan_in s t k).at o && (eqb (loan_cell t size_at k) (bytes s.minimal l) && eqb (loan_in s t k).node n)))

  -- the entry of the pair of node n, at o of chunk c: "no joinable pieces", and its tag says which side is ready
  unfoldable pub entry_ok : Ent → ℕ → ℕ → ℕ → Bool
  entry_ok e c o n =
      not (eqb e.left free_word && eqb e.right free_word)
      && (eqb e.tag (tag_of (eqb e.left free_word) (eqb e.right free_word)) && (eqb e.chunk c && (eqb e.off o && eqb e.up n)))

  -- of k pairs and loans that are still to be met, how many are left when node n of level l at o of chunk c, whose word is w, has
  -- been walked; nowhere where something is not right, or more is met than k
  unfoldable pub left_node : ℕ → ℕ → ℕ → ℕ → ℕ → ℕ → ℕ
  left_node zero c o n w k =
      cond (eqb w free_word) k (cond (says_loan w) (cond (ltb 0 k && leaf_ok (loan_said w) c zero o n) (k - 1) nowhere) nowhere)
  left_node (suc l) c o n w k =
      cond (eqb w free_word) k
      (cond (says_loan w) (cond (ltb 0 k && leaf_ok (loan_said w) c (suc l) o n) (k - 1) nowhere)
      (cond (ltb 0 k && entry_ok (pairs_in s t l (pair_said w)) c o n)
      (and_then
      (left_node l c o (node_of (pair_said w) L) (pairs_in s t l (pair_said w)).left (k - 1))
      (left_node l c (o + bytes s.minimal l) (node_of (pair_said w) R) (pairs_in s t l (pair_said w)).right))
      nowhere))

  -- the same when the chunk at place c has been walked, where there is one: its size, and its nodes; "a buddy store holds no wholly
  -- free chunk"
  unfoldable pub left_chunk : ℕ → ℕ → ℕ
  left_chunk c k =
      cond (held_in t c)
      (cond
      (eqb (chunk_size_in t c) (bytes s.minimal (high_in s t c))
      && (ltb 0 (high_in s t c)
      && (leb (initial_levels s) (high_in s t c)
      && (leb (high_in s t c) (levels_in t) && not (eqb (top_in s t c) free_word)))))
      (left_node (high_in s t c) c 0 nowhere (top_in s t c) k)
      nowhere)
      k

  -- and the chunks at the first n places
  unfoldable pub left_chunks : ℕ → ℕ → ℕ
  left_chunks zero k = k
  left_chunks (suc n) k = and_then (left_chunks n k) (left_chunk n)

  -- how many pairs of the first n levels are in use, as their vacant chains tell it
  unfoldable pub pairs_in_use : ℕ → ℕ
  pairs_in_use zero = 0
  pairs_in_use (suc l) = pairs_in_use l + in_use (level_from s l) t.room

  -- how many stand in the rings of the first n levels
  unfoldable pub pairs_ready : ℕ → ℕ
  pairs_ready zero = 0
  pairs_ready (suc l) = pairs_ready l + ringed (level_from s l) t.room

  -- a tree has one pair less than leaves, and its leaves are its loans and the free side of each ready pair: no ready pair is missing
  -- from the rings
  unfoldable pub leaves_ok : Bool
  leaves_ok = eqb (pairs_ready (levels_in t) + live_count t) (pairs_in_use (levels_in t) + held_count t)

  -- the walk down every chunk meets all that is in use
  unfoldable pub counted_ok : Bool
  counted_ok = eqb (left_chunks (chunk_places_in t) (pairs_in_use (levels_in t) + live_count t)) 0

  -- ---- the whole

  -- no two held chunks have one memory number, by comparing each with each: the code sorts
  unfoldable pub memories_ok : Bool
  memories_ok =
      every (λ (c : ℕ). every (λ (d : ℕ). not (held_in t c && held_in t d) || not (eqb (memory_in t c) (memory_in t d))) c) (chunk_places_in t)

  -- a loan is of whole atom units
  unfoldable pub units_ok : ℕ → Bool
  units_ok k =
      not (live_in t k)
      || (eqb ((loan_in s t k).at % (s.store.atom + 1)) 0 && eqb (loan_cell t size_at k % (s.store.atom + 1)) 0)

  abbrev pub sound_row : List Bool
  sound_row =
      signed_ok marks t
      ∷ leb (initial_levels s) (levels_in t)
      ∷ leb (levels_in t) levels_most
      ∷ parted_ok (vacant_loan t) (loan_after t) (loan_slab t) s.store.loans
      ∷ chains_ok (vacant_loan t) (chain_start t) (chain_next t) (serial_of t.loans) s.store.loans (places_in t) (given_in t)
      ∷ parted_ok (vacant_chunk t) (chunk_after s t) (chunk_slab s t) s.store.chunks
      ∷ memories_ok
      ∷ every (λ (l : ℕ). level_ok (level_from s l) s.pairs t.room) (levels_in t)
      ∷ leaves_ok
      ∷ counted_ok
      ∷ every units_ok (places_in t)
      ∷ []

  unfoldable pub sound_ok : Bool
  sound_ok = all sound_row
