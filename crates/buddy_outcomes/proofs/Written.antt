-- The words of a loan that was written at a place of the book, or entered in it, and those of the others.
use mathlib.Core.Path.{◌≡◌, ap, ◌∙◌}
use mathlib.Core.List.{List}
use Prim.Native.Nat.{ℕ, ◌*◌, ◌<◌, ◌+◌, ◌≤◌}
use native.Mathlib.Omega.{arith}
use lib.ListN.{length, get_or, set, length-set}
use lib.Seq.{get_or-set_same, get_or-set_other}
use Rattle.words.specs.Words.{cell_of}
use Rattle.words.specs.Rows.{written}
use Rattle.store_rules.specs.Loans.{loan_row, loan_words, serial_at, chunk_at, offset_at, size_at}
use Rattle.store_rules.specs.declared.Loan.{Loan}
use Rattle.book_rules.specs.Book.{taken_of, counted, entered}
use Rattle.book_rules.proofs.Changed.{by_words}
use Rattle.book_rules.proofs.Counted.{counted_long, counted_cell}

-- f is the place of a word of the loan at place 0
abbrev pub OfLoan : ℕ → Type 0
OfLoan f = (loan_words ≤ f) × (f < loan_words + loan_words)

module _ (loans : List ℕ) (n p : ℕ) (l : Loan) (long : length loans ≡ loan_words + loan_words * n) (room : p < n) where
  abbrev one : List ℕ
  one = set loans (cell_of serial_at loan_words p) l.serial

  abbrev two : List ℕ
  two = set one (cell_of chunk_at loan_words p) l.chunk

  abbrev three : List ℕ
  three = set two (cell_of offset_at loan_words p) l.offset

  one_long : length one ≡ loan_words + loan_words * n
  one_long = length-set loans (cell_of serial_at loan_words p) l.serial ∙ long

  two_long : length two ≡ loan_words + loan_words * n
  two_long = length-set one (cell_of chunk_at loan_words p) l.chunk ∙ one_long

  three_long : length three ≡ loan_words + loan_words * n
  three_long = length-set two (cell_of offset_at loan_words p) l.offset ∙ two_long

  pub serial_here : get_or (written loan_row p l loans) (cell_of serial_at loan_words p) 0 ≡ l.serial
  serial_here =
      ap (λ (t : List ℕ). get_or t (cell_of serial_at loan_words p) 0) (by_words loans n p l long room)
      ∙ get_or-set_other three (cell_of size_at loan_words p) (cell_of serial_at loan_words p) l.size 0 (λ e. omega arith)
      ∙ get_or-set_other two (cell_of offset_at loan_words p) (cell_of serial_at loan_words p) l.offset 0 (λ e. omega arith)
      ∙ get_or-set_other one (cell_of chunk_at loan_words p) (cell_of serial_at loan_words p) l.chunk 0 (λ e. omega arith)
      ∙ get_or-set_same loans (cell_of serial_at loan_words p) l.serial 0 (omega (arith, long))

  pub chunk_here : get_or (written loan_row p l loans) (cell_of chunk_at loan_words p) 0 ≡ l.chunk
  chunk_here =
      ap (λ (t : List ℕ). get_or t (cell_of chunk_at loan_words p) 0) (by_words loans n p l long room)
      ∙ get_or-set_other three (cell_of size_at loan_words p) (cell_of chunk_at loan_words p) l.size 0 (λ e. omega arith)
      ∙ get_or-set_other two (cell_of offset_at loan_words p) (cell_of chunk_at loan_words p) l.offset 0 (λ e. omega arith)
      ∙ get_or-set_same one (cell_of chunk_at loan_words p) l.chunk 0 (omega (arith, one_long))

  pub offset_here : get_or (written loan_row p l loans) (cell_of offset_at loan_words p) 0 ≡ l.offset
  offset_here =
      ap (λ (t : List ℕ). get_or t (cell_of offset_at loan_words p) 0) (by_words loans n p l long room)
      ∙ get_or-set_other three (cell_of size_at loan_words p) (cell_of offset_at loan_words p) l.size 0 (λ e. omega arith)
      ∙ get_or-set_same two (cell_of offset_at loan_words p) l.offset 0 (omega (arith, two_long))

  pub size_here : get_or (written loan_row p l loans) (cell_of size_at loan_words p) 0 ≡ l.size
  size_here =
      ap (λ (t : List ℕ). get_or t (cell_of size_at loan_words p) 0) (by_words loans n p l long room)
      ∙ get_or-set_same three (cell_of size_at loan_words p) l.size 0 (omega (arith, three_long))

  pub cell_other : (f x : ℕ) → OfLoan f → (x ≡ p → ⊥) → get_or (written loan_row p l loans) (cell_of f loan_words x) 0 ≡ get_or loans (cell_of f loan_words x) 0
  cell_other f x h o =
      ap (λ (t : List ℕ). get_or t (cell_of f loan_words x) 0) (by_words loans n p l long room)
      ∙ get_or-set_other three (cell_of size_at loan_words p) (cell_of f loan_words x) l.size 0 (λ e. o (omega (arith, h.0, h.1)))
      ∙ get_or-set_other two (cell_of offset_at loan_words p) (cell_of f loan_words x) l.offset 0 (λ e. o (omega (arith, h.0, h.1)))
      ∙ get_or-set_other one (cell_of chunk_at loan_words p) (cell_of f loan_words x) l.chunk 0 (λ e. o (omega (arith, h.0, h.1)))
      ∙ get_or-set_other loans (cell_of serial_at loan_words p) (cell_of f loan_words x) l.serial 0 (λ e. o (omega (arith, h.0, h.1)))

-- ---- entered: the counts are written too, and they are words of no loan

module _ (places : ℕ) (index : List ℕ) (l : Loan) (loans : List ℕ) (n : ℕ) (long : length loans ≡ loan_words + loan_words * n) (room : (taken_of places index).place < n) where
  abbrev p : ℕ
  p = (taken_of places index).place

  abbrev kept : List ℕ
  kept = counted l.serial (taken_of places index).slab.places loans

  kept_long : length kept ≡ loan_words + loan_words * n
  kept_long = counted_long l.serial (taken_of places index).slab.places loans ∙ long

  pub entered_serial : get_or (entered places index l loans) (cell_of serial_at loan_words (taken_of places index).place) 0 ≡ l.serial
  unfolding entered
  entered_serial = serial_here kept n p l kept_long room

  pub entered_chunk : get_or (entered places index l loans) (cell_of chunk_at loan_words (taken_of places index).place) 0 ≡ l.chunk
  unfolding entered
  entered_chunk = chunk_here kept n p l kept_long room

  pub entered_offset : get_or (entered places index l loans) (cell_of offset_at loan_words (taken_of places index).place) 0 ≡ l.offset
  unfolding entered
  entered_offset = offset_here kept n p l kept_long room

  pub entered_size : get_or (entered places index l loans) (cell_of size_at loan_words (taken_of places index).place) 0 ≡ l.size
  unfolding entered
  entered_size = size_here kept n p l kept_long room

  pub entered_other : (f x : ℕ) → OfLoan f → (x ≡ (taken_of places index).place → ⊥) → get_or (entered places index l loans) (cell_of f loan_words x) 0 ≡ get_or loans (cell_of f loan_words x) 0
  unfolding entered
  entered_other f x h o =
      cell_other kept n p l kept_long room f x h o ∙ counted_cell l.serial (taken_of places index).slab.places loans f x h.0
