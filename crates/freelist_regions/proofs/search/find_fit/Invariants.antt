use Rattle.std.proofs.Common.{◌≡◌, ◌≤◌, take}
use Rattle.words.specs.Rows.{rows}
use Rattle.freelist_rules.specs.Records.{gap_row}
use Rattle.freelist_rules.specs.Place.{find}
use Rattle.freelist_rules.specs.Threads.{free_of}
-- what fits stands among the first k
use Rattle.freelist_regions.proofs.search.find_fit.Given as goal

abbrev pub invariant-loop-k : goal.invariant-loop-k
invariant-loop-k l = (l.k ≤ l.n) × (find l.mask l.size (free_of (rows gap_row l.n l.t)) ≡ find l.mask l.size (take l.k (free_of (rows gap_row l.n l.t))))

abbrev pub decreases-loop-k : goal.decreases-loop-k
decreases-loop-k l = l.k
