-- The test of a level: its chain of vacated places and its ring are each followed once, and no other row is read. That neither lacks
-- a place is told by the counts of the whole store.
use Rattle.std.specs.Prelude.{Bool, true, ◌&&◌, not, List, ℕ, zero, suc, ◌+◌, eqb, leb, ltb, get_or}
use Rattle.slabs.specs.Slab.{nowhere, link_at}
use Rattle.slabs.specs.Test.{off_chain}
use Rattle.ring_rules.specs.Test.{ring_length}
use Rattle.buddy_rules.specs.Nodes.{exhausted}
use Rattle.buddy_rules.specs.Level.{
  ring_at,
  used_at,
  tag_at,
  next_at,
  prev_at,
  pair_words,
  field_at,
  pair_cell,
  ring_head,
  slab_in,
  vacant_in,
  vacant_after,
}

-- the test holds at each of k places from p on, next leading from each to the one after it
unfoldable pub along : (ℕ → Bool) → (ℕ → ℕ) → ℕ → ℕ → Bool
along f next p zero = true
along f next p (suc k) = f p && along f next (next p) k

-- a level whose words begin at b
module _ (b : ℕ) where
  -- a pair is ready: its tag says so
  abbrev pub ready_in : List ℕ → ℕ → Bool
  ready_in t p = ltb exhausted (get_or t (pair_cell b tag_at p) 0)

  -- the pair after p in the ring
  abbrev pub ready_after : List ℕ → ℕ → ℕ
  ready_after t = link_at t (field_at b next_at) pair_words

  -- how many pairs stand in the ring
  abbrev pub ringed : List ℕ → ℕ
  ringed t = ring_length (b + ring_at) (field_at b next_at) (field_at b prev_at) pair_words (get_or t (b + used_at) 0) t

  -- how many pairs are in use: of the places ever used those that the chain of the vacated ones leaves over; nowhere where it is torn
  unfoldable pub in_use : List ℕ → ℕ
  in_use t = off_chain (vacant_in b t) (vacant_after b t) (get_or t (b + used_at) 0) (slab_in b t).vacant (get_or t (b + used_at) 0)

  -- chain and ring of a level end within its places, of which there are not too many, and every pair in the ring is ready
  unfoldable pub level_ok : ℕ → List ℕ → Bool
  level_ok pairs t =
      leb (get_or t (b + used_at) 0) pairs
      && (not (eqb (in_use t) nowhere)
      && (not (eqb (ringed t) nowhere) && along (ready_in t) (ready_after t) (ring_head b t) (ringed t)))
