use Rattle.std.proofs.Common.{length, set, ap, ◌∙◌, mod-lt, arith}
use Rattle.words.specs.Rows.{written}
use Rattle.slabs.specs.Slab.{record_of}
use Rattle.store_rules.specs.Loans.{loan_row}
use Rattle.book_rules.specs.Book.{vacated_at, first_of, next_of}
use Rattle.book_rules.proofs.Counted.{counted_long}
use Rattle.book.proofs.enter_at.Goals as goal

pub write_loan-requires : goal.write_loan-requires
write_loan-requires c =
    let q = c.requires in
    let k = c.count.ensures in
    let long = ap length k ∙ counted_long c.args.l.serial c.args.t.slab.places c.args.loans.now in
    omega (arith, q.place, q.loans_long, long)

pub put_first-requires : goal.put_first-requires
put_first-requires c = let q = c.requires in (omega (arith, c.remainder-i.ensures, mod-lt c.args.l.serial q.some, q.index_long), omega (arith, q.place, q.index_long))

pub returns : goal.returns
returns c = let a = c.args in record { loans_after = c.write_loan.ensures ∙ ap (written loan_row a.t.place a.l) c.count.ensures; index_after = c.put_first.ensures ∙ (λ j. set (set (set a.index.now vacated_at (record_of a.t.slab.vacant)) (next_of a.t.place) (c.first_word-first.ensures j)) (first_of (c.remainder-i.ensures j)) (record_of a.t.place)) }
