use Rattle.std.proofs.Common.{arith}
use Rattle.slabs.specs.Slab.{vacant_at}
use Rattle.store_rules.specs.Loans.{loan_words, size_at}
use Rattle.book_rules.proofs.Following.{vacancies_most, chains_counted}
use Rattle.book.proofs.chains.is_chained.Goals as goal

pub overflow_sub-places : goal.overflow_sub-places
overflow_sub-places c =
    omega (arith, c.requires.1, vacancies_most (vacant_at c.args.loans.now size_at loan_words) c.args.places)

pub returns : goal.returns
returns c = chains_counted _ _ _ _ _ _ _ _ _ c.requires.1 c.left_of.ensures
