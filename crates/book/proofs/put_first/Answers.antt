use Rattle.std.proofs.Common.{set}
use Rattle.book_rules.specs.Book.{vacated_at, first_of, next_of}
use Rattle.book.proofs.put_first.Goals as goal

pub returns : goal.returns
returns c =
    let a = c.args in
    (λ j. set (set (set a.index.now vacated_at (c.record_of.ensures j)) (next_of a.p) a.first) (first_of a.i) (c.record_of-2.ensures j))
