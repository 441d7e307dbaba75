-- The test of a slab, linear in the places ever used.
use Rattle.std.specs.Prelude.{ℕ, zero, suc, ◌+◌, Bool, cond, ◌&&◌, ◌==◌, nat_le, nat_lt}
use Rattle.slabs.specs.Slab.{nowhere}
use Rattle.slabs.specs.declared.Slab.{Slab}

-- how many of the first k places are vacant by their records
unfoldable pub vacancies : (ℕ → Bool) → ℕ → ℕ
vacancies free zero = 0
vacancies free (suc k) = cond (free k) (vacancies free k + 1) (vacancies free k)

-- from h on the chain leads through k vacant places below n, and ends there
unfoldable pub leads : (ℕ → Bool) → (ℕ → ℕ) → ℕ → ℕ → ℕ → Bool
leads free next n h zero = h == nowhere
leads free next n h (suc k) = nat_lt h n && (free h && leads free next n (next h) k)

-- the chain leads through as many vacant places as there are
unfoldable pub parted_ok : (ℕ → Bool) → (ℕ → ℕ) → Slab → ℕ → Bool
parted_ok free next s most =
    nat_le s.places most && leads free next s.places s.vacant (vacancies free s.places)

-- how many of k places are over when the chain from h on, which leads through vacant places below n, has ended: nowhere where it leads
-- elsewhere, or through more than k
unfoldable pub off_chain : (ℕ → Bool) → (ℕ → ℕ) → ℕ → ℕ → ℕ → ℕ
off_chain free next n h zero = cond (h == nowhere) zero nowhere
off_chain free next n h (suc k) = cond (h == nowhere) (suc k) (cond (nat_lt h n && free h) (off_chain free next n (next h) k) nowhere)
