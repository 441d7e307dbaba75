use Rattle.std.proofs.Common.{◌≡◌, ℕ, ◌+◌, ◌-◌, ◌%◌, ◌^◌, ◌<◌, ◌≤◌, false, ⊎_elim, arith, le-leb, leb-false}
use borrow.Author.Tests.{lt-leb}
use Rattle.lists.proofs.Bools.{lt_or_le}
use Rattle.rounding_rules.proofs.Raising.{down_enough}
use Rattle.store_rules.specs.declared.Region.{Region}
use Rattle.freelist_rules.specs.Records.{region}
use Rattle.freelist_rules.specs.Place.{cut, fits_in}
-- x bytes, wrapped where the region ends before it starts: then it has no place either
use Rattle.freelist_regions.proofs.search.is_long.Goals as goal

short : (mask size x : ℕ) (r : Region) → r.start < 2 ^ 64 → x < 2 ^ 64 → (x + r.start) % 2 ^ 64 ≡ r.end → x < size → fits_in mask size r ≡ false
unfolding fits_in
short mask size x r s w e h =
    ⊎_elim
    (λ (l : r.end < size). rw (lt-leb size r.end l))
    (λ (l : size ≤ r.end). rw (le-leb _ _ l, lt-leb r.start (cut mask size r) (omega (arith, down_enough (r.end - size) mask))))
    (lt_or_le r.end size)

pub returns : goal.returns
returns c =
    let a = c.args in
    λ e mask chunk. short mask a.size c.wrapping_sub_u64.result (region chunk a.start a.end) (omega arith) (omega arith) c.wrapping_sub_u64.ensures.value (leb-false _ _ e)
