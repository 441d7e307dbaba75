use Rattle.std.proofs.Common.{◌≡◌}
use Rattle.slabs.specs.Slab.{vacant_at}
use Rattle.store_rules.specs.Loans.{loan_words, size_at}
use Rattle.book_rules.specs.Book.{serial_of, first_in, next_in}
use Rattle.book_rules.specs.Chains.{left_of}
use Rattle.book.proofs.chains.left_of.Given as goal

abbrev pub invariant-loop-i : goal.invariant-loop-i
invariant-loop-i l =
    l.left ≡ left_of (vacant_at l.loans size_at loan_words) (first_in l.index) (next_in l.index) (serial_of l.loans) l.n l.places l.given l.k l.i
