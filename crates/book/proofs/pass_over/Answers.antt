use Rattle.std.proofs.Common.{arith, length-set}
use Rattle.book.proofs.pass_over.Goals as goal

pub bounds-index-2 : goal.bounds-index-2
bounds-index-2 c = simp (length-set, length-set) (omega arith)
