use Rattle.std.proofs.Common.{arith, length-set}
use Rattle.book_rules.proofs.Whole.{written_along}
use Rattle.book.proofs.write_loan.Goals as goal

pub bounds-loans-at-2 : goal.bounds-loans-at-2
bounds-loans-at-2 c = simp (length-set, length-set, length-set) (omega arith)

pub bounds-loans-at-3 : goal.bounds-loans-at-3
bounds-loans-at-3 c = simp (length-set, length-set, length-set) (omega arith)

pub bounds-loans-at-4 : goal.bounds-loans-at-4
bounds-loans-at-4 c = simp (length-set, length-set, length-set) (omega arith)

pub returns : goal.returns
returns c = let a = c.args in written_along a.loans.now a.p a.l.serial a.l.chunk a.l.offset a.l.size
