-- What the code that tests or writes a book asks of its tables, so that every word it looks at is there: the gate has tested their
-- lengths, and the tests behind it the place.
use Rattle.std.specs.Prelude.{◌≡◌, List, ℕ, ◌+◌, ◌*◌, ◌≤◌, ◌<◌, length}
use Rattle.counter.specs.Limits.{loans_most}
use Rattle.words.specs.Words.{cell_of}
use Rattle.store_rules.specs.Loans.{loan_words, size_at}
use Rattle.book_rules.specs.Book.{entry_words, vacant_after_at, index_words, led_to}

-- a book of n can be read at every place below `places`, and every chain of it
pub record Reads (n places : ℕ) (loans index : List ℕ) : Type 0 where
  pub some : 0 < n
  pub most : n ≤ loans_most
  pub loans_long : length loans ≡ loan_words + loan_words * n
  pub index_long : index_words n ≤ length index
  pub few : places ≤ n

-- a loan can be entered at place p of a book of n
pub record Opens (n p : ℕ) (loans index : List ℕ) : Type 0 where
  pub some : 0 < n
  pub most : n ≤ loans_most
  pub loans_long : length loans ≡ loan_words + loan_words * n
  pub index_long : index_words n ≤ length index
  pub place : p < n

-- the loan at p, to which word `at` of the index leads, can be struck out
pub record Strikes (at p : ℕ) (loans index : List ℕ) : Type 0 where
  pub leads : p ≡ led_to index at
  pub word : at < length index
  pub size : cell_of size_at loan_words p < length loans
  pub after : cell_of vacant_after_at entry_words p < length index
