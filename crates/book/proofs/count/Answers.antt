use Rattle.std.proofs.Common.{refl}
use Rattle.book_rules.specs.Book.{counted}
use Rattle.book.proofs.count.Goals as goal

pub returns : goal.returns
unfolding counted
returns c = refl
