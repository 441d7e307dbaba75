use Rattle.std.proofs.Common.{◌≡◌}
use Rattle.slabs.specs.Slab.{vacant_at}
use Rattle.store_rules.specs.Loans.{loan_words, size_at}
use Rattle.book_rules.specs.Book.{serial_of, first_in, next_in}
use Rattle.book_rules.specs.Chains.{left_after}
use Rattle.book.proofs.chains.left_after.Given as goal

abbrev pub invariant-loop-p : goal.invariant-loop-p
invariant-loop-p l =
    left_after (vacant_at l.loans size_at loan_words) (first_in l.index) (next_in l.index) (serial_of l.loans) l.n l.places l.i l.given l.h l.k
    ≡ left_after (vacant_at l.loans size_at loan_words) (first_in l.index) (next_in l.index) (serial_of l.loans) l.n l.places l.i l.most l.p l.left

abbrev pub decreases-loop-p : goal.decreases-loop-p
decreases-loop-p l = l.left
