-- The test of a book: its places are parted into used and vacant ones, and the chains lead to each loan.
use Rattle.std.specs.Prelude.{Bool, ◌&&◌, List, ℕ}
use Rattle.slabs.specs.Slab.{vacant_at, link_at}
use Rattle.slabs.specs.Test.{parted_ok}
use Rattle.store_rules.specs.Loans.{loan_words, size_at}
use Rattle.book_rules.specs.Book.{entry_words, vacant_after_at, serial_of, slab_of, first_in, next_in}
use Rattle.book_rules.specs.Chains.{chains_ok}

-- of n places at most, so many of them ever used and so many serials given
unfoldable pub kept_ok : List ℕ → List ℕ → ℕ → ℕ → ℕ → Bool
kept_ok loans index n places given =
    parted_ok (vacant_at loans size_at loan_words) (link_at index vacant_after_at entry_words) (slab_of places index) n
    && chains_ok (vacant_at loans size_at loan_words) (first_in index) (next_in index) (serial_of loans) n places given
