use Rattle.std.proofs.Common.{◌≡◌, ℕ, ◌-◌, ◌<◌, ◌≤◌, true, false}
use Rattle.freelist_regions.specs.Seat.{reaches}
use Rattle.freelist_regions.proofs.seats.seat.Given as goal

abbrev pub invariant-loop-lo : goal.invariant-loop-lo
invariant-loop-lo l =
    (l.lo ≤ l.hi) × (l.hi ≤ l.k) × ((i : ℕ) → i < l.lo → reaches l.t l.number i ≡ false) × ((i : ℕ) → l.hi ≤ i → i < l.k → reaches l.t l.number i ≡ true)

abbrev pub decreases-loop-lo : goal.decreases-loop-lo
decreases-loop-lo l = l.hi - l.lo
