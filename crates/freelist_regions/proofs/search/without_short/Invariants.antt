use Rattle.std.proofs.Common.{◌≤◌}
use Rattle.freelist_regions.specs.Found.{NoneFits}
use Rattle.freelist_regions.proofs.search.without_short.Given as goal

abbrev pub invariant-loop-k : goal.invariant-loop-k
invariant-loop-k l = (l.k ≤ l.n) × NoneFits l.size l.t l.k l.n

abbrev pub decreases-loop-k : goal.decreases-loop-k
decreases-loop-k l = l.k
