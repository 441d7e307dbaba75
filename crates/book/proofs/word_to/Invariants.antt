use Rattle.std.proofs.Common.{◌≡◌, ◌-◌, ◌<◌}
use Rattle.book_rules.specs.Book.{index_words, seek_in, word_to}
use Rattle.book.proofs.word_to.Given as goal

abbrev pub invariant-loop : goal.invariant-loop
invariant-loop l = (l.at < index_words l.n) × (word_to l.loans l.index l.n l.places l.serial ≡ seek_in l.loans l.index l.places l.serial l.at (l.places - l.counter))
