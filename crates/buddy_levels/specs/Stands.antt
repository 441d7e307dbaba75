-- What the code of a level asks of a table, so that every word of the pairs it reads or writes is there.
use Rattle.std.specs.Prelude.{ℕ, ◌+◌, ◌<◌, List, length, ◌≢◌}
use Rattle.slabs.specs.Slab.{nowhere, link_at}
use Rattle.buddy_rules.specs.Level.{vacated_at, pair_words, next_at, prev_at, up_at, field_at, pair_cell, ring_head, slab_in}

-- a level whose words begin at b
module _ (b : ℕ) where
  -- the record of pair p is there
  abbrev pub Stands : ℕ → List ℕ → Type 0
  Stands p t = pair_cell b up_at p < length t

  -- the pairs after p and before it in the ring
  abbrev pub pair_after : List ℕ → ℕ → ℕ
  pair_after t p = link_at t (field_at b next_at) pair_words p

  abbrev pub pair_before : List ℕ → ℕ → ℕ
  pair_before t p = link_at t (field_at b prev_at) pair_words p

  -- pair p can leave the ring
  pub record Leaves (p : ℕ) (t : List ℕ) : Type 0 where
    pub own : Stands p t
    pub after : Stands (pair_after t p) t
    pub before : Stands (pair_before t p) t

  -- pair p can join it, before the head where there is one
  pub record Joins (p : ℕ) (t : List ℕ) : Type 0 where
    pub own : Stands p t
    pub first : (ring_head b t ≢ nowhere) → Stands (ring_head b t) t
    pub last : (ring_head b t ≢ nowhere) → Stands (pair_before t (ring_head b t)) t

  -- the place that a new pair takes can be told: where one was vacated, its link is there
  pub record Takes (t : List ℕ) : Type 0 where
    pub header : b + vacated_at < length t
    pub link : (slab_in b t).vacant < (slab_in b t).places → Stands (slab_in b t).vacant t
