-- What the code of a ring asks of a table, so that every word it reads or writes is there.
use Rattle.std.specs.Prelude.{◌≡◌, List, ℕ, ◌<◌, length}
use Rattle.words.specs.Words.{cell_of}
use Rattle.slabs.specs.Slab.{nowhere}
use Rattle.ring_rules.specs.Ring.{next, prev, head_in_ring}

module _ (head next_at prev_at step : ℕ) where
  -- p can be taken out: its links are there, and those that lead to it
  pub record Leaves (p : ℕ) (t : List ℕ) : Type 0 where
    pub head_in : head < length t
    pub next_in_lem : cell_of next_at step p < length t
    pub prev_in : cell_of prev_at step p < length t
    pub before : cell_of next_at step (prev head next_at prev_at step t p) < length t
    pub after : cell_of prev_at step (next head next_at prev_at step t p) < length t

  -- p can join: its links are there, and, where the ring has a head, those between the last place and the head
  pub record Joins (p : ℕ) (t : List ℕ) : Type 0 where
    pub head_in : head < length t
    pub next_in_lem : cell_of next_at step p < length t
    pub prev_in : cell_of prev_at step p < length t
    pub first : (head_in_ring head next_at prev_at step t ≡ nowhere → ⊥) → cell_of prev_at step (head_in_ring head next_at prev_at step t) < length t
    pub last : (head_in_ring head next_at prev_at step t ≡ nowhere → ⊥) → cell_of next_at step (prev head next_at prev_at step t (head_in_ring head next_at prev_at step t)) < length t
