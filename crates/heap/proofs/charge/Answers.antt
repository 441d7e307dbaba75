use Rattle.heap.specs.Heap.{charged_of}
use Rattle.heap.proofs.charge.Goals as goal

pub returns : goal.returns
unfolding charged_of
returns c = rw c.plus.ensures
