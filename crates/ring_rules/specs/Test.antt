-- The test of a ring: a walk from the head on, back to it, of as many steps as there are places at most.
use Rattle.std.specs.Prelude.{cond, ◌&&◌, List, ℕ, zero, suc, ◌-◌, eqb, ltb, get_or}
use Rattle.slabs.specs.Slab.{nowhere}
use Rattle.ring_rules.specs.Ring.{next, prev, head_in_ring}

-- how many of n places have been met when the walk from p on, with k steps left, is back at h: nowhere where a step leads
-- to no place or to one that does not lead back, and where no step is left
unfoldable pub met_after : (ℕ → ℕ) → (ℕ → ℕ) → ℕ → ℕ → ℕ → ℕ → ℕ
met_after next prev n h p zero = nowhere
met_after next prev n h p (suc k) =
    cond (ltb (next p) n && eqb (prev (next p)) p) (cond (eqb (next p) h) (n - k) (met_after next prev n h (next p) k)) nowhere

-- how many places stand in the ring, all of them below n: nowhere where it is torn
unfoldable pub ring_length : ℕ → ℕ → ℕ → ℕ → ℕ → List ℕ → ℕ
ring_length head next_at prev_at step n t =
    cond (eqb (head_in_ring head next_at prev_at step t) nowhere) 0
    (cond (ltb (head_in_ring head next_at prev_at step t) n)
    (met_after (next head next_at prev_at step t) (prev head next_at prev_at step t) n (head_in_ring head next_at prev_at step t) (head_in_ring head next_at prev_at step t) n)
    nowhere)
