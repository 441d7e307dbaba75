-- A loan struck out step by step is struck out as the book says.
use Rattle.std.proofs.Common.{◌≡◌, ℕ, List, get_or, set, ap, ◌∙◌}
use Rattle.words.specs.Words.{cell_of}
use Rattle.store_rules.specs.Loans.{loan_words, serial_at, size_at}
use Rattle.book_rules.specs.Book.{entry_words, vacated_at, vacant_after_at, next_of, led_to, struck, struck_index}

module _ (index : List ℕ) (at p : ℕ) where
  pub struck_loans : (loans x : List ℕ) → p ≡ led_to index at → x ≡ set (set loans (cell_of size_at loan_words p) 0) (cell_of serial_at loan_words p) 0 → x ≡ struck at index loans
  unfolding struck
  struck_loans loans x e f = f ∙ ap (λ (q : ℕ). set (set loans (cell_of size_at loan_words q) 0) (cell_of serial_at loan_words q) 0) e

  pub struck_index_lem : (next vacated : ℕ) (x : List ℕ) → p ≡ led_to index at → next ≡ get_or index (next_of p) 0 → vacated ≡ get_or index vacated_at 0
      → x ≡ set (set (set index at next) (cell_of vacant_after_at entry_words p) vacated) vacated_at (get_or index at 0) → x ≡ struck_index at index
  unfolding struck_index
  struck_index_lem next vacated x e f g h =
      h ∙ rw (f, g) (ap (λ (q : ℕ). set (set (set index at (get_or index (next_of q) 0)) (cell_of vacant_after_at entry_words q) (get_or index vacated_at 0)) vacated_at (get_or index at 0)) e)
