-- What the records of the loans say when one of them is entered in the book, or struck out: the others stay.
use mathlib.Core.Path.{◌≡◌, sym, ap, ◌∙◌}
use mathlib.Core.List.{List}
use Prim.Native.Nat.{ℕ, ◌+◌, ◌*◌, ◌≤◌, ◌<◌}
use native.Mathlib.Omega.{arith}
use lib.ListN.{length, get_or, set, length-set, drop}
use lib.Seq.{get_or-set_same, get_or-set_other}
use Rattle.words.specs.Words.{cell_of}
use Rattle.words.specs.Rows.{Layout, row, rows, written}
use Rattle.words.proofs.Records.{length_rows, get_d_rows, rows_own, rows_after, updated_at, cell_row}
use Rattle.store_rules.specs.Loans.{given_at, places_at, loan_words, serial_at, chunk_at, offset_at, size_at, loan, no_loan, loan_row}
use Rattle.store_rules.specs.declared.Loan.{Loan}
use Rattle.book_rules.specs.Book.{led_to, taken_of, counted, entered, struck}
use Rattle.book_rules.proofs.Counted.{counted_long}

-- ---- one record written

module _ {R : Type 0} (L : Layout R) (n p : ℕ) (r : R) (t : List ℕ) (room : p < n) (long : L.width + L.width * n ≤ length t) where
  rows_written : rows L n (written L p r t) ≡ set (rows L n t) p r
  rows_written =
      ap (rows L n) (updated_at L n p r t room long) ∙ rows_after L n (set (rows L n t) p r) t long (length-set (rows L n t) p r ∙ length_rows L n t)

  row_here : row L p (written L p r t) ≡ r
  row_here =
      sym (get_d_rows L n p (written L p r t) r room)
      ∙ ap (λ (rs : List R). get_or rs p r) rows_written
      ∙ get_or-set_same (rows L n t) p r r (omega (arith, length_rows L n t))

  row_other : (x : ℕ) → x < n → (x ≡ p → ⊥) → row L x (written L p r t) ≡ row L x t
  row_other x h o =
      sym (get_d_rows L n x (written L p r t) r h)
      ∙ ap (λ (rs : List R). get_or rs x r) rows_written
      ∙ get_or-set_other (rows L n t) p x r r o
      ∙ get_d_rows L n x t r h

-- ---- a loan entered

module _ (places : ℕ) (index : List ℕ) (l : Loan) (loans : List ℕ) (n : ℕ) (long : length loans ≡ loan_words + loan_words * n) (room : (taken_of places index).place < n) where
  abbrev kept : List ℕ
  kept = counted l.serial (taken_of places index).slab.places loans

  kept_long : loan_words + loan_words * n ≤ length kept
  kept_long = omega (arith, counted_long l.serial (taken_of places index).slab.places loans)

  -- the counts stand in the table's own record
  kept_row : (x : ℕ) → x < n → row loan_row x kept ≡ row loan_row x loans
  unfolding counted
  kept_row x h =
      let one : List ℕ = set loans given_at l.serial in
      let q : ℕ = (taken_of places index).slab.places in
      sym (get_d_rows loan_row n x kept no_loan h)
      ∙ ap (λ (rs : List Loan). get_or rs x no_loan)
      (rows_own loan_row n places_at q one (omega arith) (omega (arith, length-set loans given_at l.serial)) ∙ rows_own loan_row n given_at l.serial loans (omega arith) (omega arith))
      ∙ get_d_rows loan_row n x loans no_loan h

  pub entered_here : row loan_row (taken_of places index).place (entered places index l loans) ≡ l
  unfolding entered
  entered_here = row_here loan_row n (taken_of places index).place l kept room kept_long

  pub entered_other : (x : ℕ) → x < n → (x ≡ (taken_of places index).place → ⊥) → row loan_row x (entered places index l loans) ≡ row loan_row x loans
  unfolding entered
  entered_other x h o = row_other loan_row n (taken_of places index).place l kept room kept_long x h o ∙ kept_row x h

-- ---- a loan struck out

-- a record is told by its four words
same_words : (t u : List ℕ) (x : ℕ) → ((k : ℕ) → loan_words ≤ k → k < 2 * loan_words → get_or u (cell_of k loan_words x) 0 ≡ get_or t (cell_of k loan_words x) 0) → row loan_row x u ≡ row loan_row x t
same_words t u x f = λ j. loan (word serial_at (omega arith) (omega arith) j) (word chunk_at (omega arith) (omega arith) j) (word offset_at (omega arith) (omega arith) j) (word size_at (omega arith) (omega arith) j)
  where
    word : (k : ℕ) → loan_words ≤ k → k < 2 * loan_words → get_or (drop (loan_words * x) u) k 0 ≡ get_or (drop (loan_words * x) t) k 0
    word k g h = sym (cell_row u k loan_words x) ∙ f k g h ∙ cell_row t k loan_words x

pub struck_other : (at : ℕ) (index loans : List ℕ) (x : ℕ) → (x ≡ led_to index at → ⊥) → row loan_row x (struck at index loans) ≡ row loan_row x loans
unfolding struck
struck_other at index loans x o =
    same_words loans (struck at index loans) x
    (λ k g h. let p : ℕ = led_to index at in
    get_or-set_other (set loans (cell_of size_at loan_words p) 0) (cell_of serial_at loan_words p) (cell_of k loan_words x) 0 0 (λ e. o (omega arith))
    ∙ get_or-set_other loans (cell_of size_at loan_words p) (cell_of k loan_words x) 0 0 (λ e. o (omega arith)))
