use Rattle.book_rules.proofs.Whole.{loan_along}
use Rattle.book.proofs.loan_in.Goals as goal

pub returns : goal.returns
returns c = let a = c.args in loan_along a.loans.now a.p
