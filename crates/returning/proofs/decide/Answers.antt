use native.Mathlib.Omega.{arith}
use Rattle.returning.proofs.Found.{word_in, loan_in_lem}
use Rattle.returning.proofs.decide.Goals as goal

pub offset_bounds-index-at : goal.offset_bounds-index-at
offset_bounds-index-at c =
    let a = c.args in
    omega (arith, word_in a.loans.now a.index.now a.n a.places a.b.serial c.requires _ c.word_to-at.ensures c.if-at.false)

pub bounds-index-at : goal.bounds-index-at
bounds-index-at c =
    let a = c.args in
    word_in a.loans.now a.index.now a.n a.places a.b.serial c.requires _ c.word_to-at.ensures c.if-at.false

pub loan_in-l-requires : goal.loan_in-l-requires
loan_in-l-requires c =
    let a = c.args in
    loan_in_lem a.loans.now a.index.now a.n a.places a.b.serial c.requires _ c.word_to-at.ensures c.if-at.false _ c.place_of-p.ensures
