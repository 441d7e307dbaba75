use Rattle.std.proofs.Common.{ℕ, get_or, ap, mod-lt, arith}
use Rattle.book_rules.specs.Book.{first_of}
use Rattle.book.proofs.first_word.Goals as goal

pub overflow_mul-at : goal.overflow_mul-at
overflow_mul-at c = omega (arith, c.remainder-i.ensures, mod-lt c.args.serial c.requires.0)

pub overflow_add-at : goal.overflow_add-at
overflow_add-at c = omega (arith, c.remainder-i.ensures, mod-lt c.args.serial c.requires.0)

pub offset_bounds-index-at : goal.offset_bounds-index-at
offset_bounds-index-at c = omega (arith, c.remainder-i.ensures, mod-lt c.args.serial c.requires.0)

pub bounds-index-at : goal.bounds-index-at
bounds-index-at c = omega (arith, c.remainder-i.ensures, mod-lt c.args.serial c.requires.0)

pub returns : goal.returns
returns c = ap (λ (i : ℕ). get_or c.args.index.now (first_of i) 0) c.remainder-i.ensures
