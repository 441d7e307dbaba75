use Rattle.book_rules.proofs.Whole.{loan_read}
use Rattle.book.proofs.loan_by_words.Goals as goal

pub returns : goal.returns
returns c =
    let a = c.args in
    loan_read a.loans.now a.p _ _ _ _ c.cell.ensures c.cell-2.ensures c.cell-3.ensures c.cell-4.ensures
