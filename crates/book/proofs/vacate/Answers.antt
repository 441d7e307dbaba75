use Rattle.std.proofs.Common.{arith, length-set}
use Rattle.book.proofs.vacate.Goals as goal

pub bounds-loans-serial : goal.bounds-loans-serial
bounds-loans-serial c = simp length-set (omega arith)
