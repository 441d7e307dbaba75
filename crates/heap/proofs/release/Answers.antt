use Rattle.heap.specs.Heap.{released_of}
use Rattle.heap.proofs.release.Goals as goal

pub returns : goal.returns
unfolding released_of
returns c = rw (c.plus.ensures, c.saturating_sub.ensures)
