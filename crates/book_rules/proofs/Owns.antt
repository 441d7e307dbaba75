-- The marks of a book's two tables stay as a loan is entered and as one is struck out.
use mathlib.Core.Path.{◌≡◌, ◌∙◌}
use mathlib.Core.Bool.{Bool, true, false, cond}
use mathlib.Core.List.{List}
use Prim.Native.Nat.{ℕ, zero, suc, ◌%◌, ◌<◌}
use native.Mathlib.Omega.{arith}
use lib.Dec.{eqb, ltb}
use lib.ListN.{get_or, set}
use lib.Seq.{get_or-set_other}
use Rattle.words.specs.Words.{cell_of, mark_at}
use Rattle.words.proofs.Records.{own_written}
use Rattle.slabs.specs.Slab.{nowhere, record_of}
use Rattle.store_rules.specs.Loans.{loan_words, serial_at, size_at, loan_row}
use Rattle.store_rules.specs.declared.Loan.{Loan}
use Rattle.book_rules.specs.Book.{entry_words, vacated_at, vacant_after_at, first_of, next_of, led_to, serial_of, taken_of, counted, entered, entered_index, seek_in, word_to, struck, struck_index}
use Rattle.book_rules.proofs.Counted.{counted_mark}

pub entered_mark : (places : ℕ) (index : List ℕ) (l : Loan) (loans : List ℕ) → get_or (entered places index l loans) mark_at 0 ≡ get_or loans mark_at 0
unfolding entered
entered_mark places index l loans =
    own_written loan_row (taken_of places index).place l (counted l.serial (taken_of places index).slab.places loans) mark_at 0 (omega arith) ∙ counted_mark l.serial (taken_of places index).slab.places loans

pub entered_index_mark : (n places serial : ℕ) (index : List ℕ) → get_or (entered_index n places serial index) mark_at 0 ≡ get_or index mark_at 0
unfolding entered_index
entered_index_mark n places serial index =
    get_or-set_other
    (set (set index vacated_at (record_of (taken_of places index).slab.vacant)) (next_of (taken_of places index).place) (get_or index (first_of (serial % n)) 0))
    (first_of (serial % n)) mark_at (record_of (taken_of places index).place) 0 (λ e. omega arith)
    ∙ get_or-set_other (set index vacated_at (record_of (taken_of places index).slab.vacant)) (next_of (taken_of places index).place) mark_at (get_or index (first_of (serial % n)) 0) 0 (λ e. omega arith)
    ∙ get_or-set_other index vacated_at mark_at (record_of (taken_of places index).slab.vacant) 0 (λ e. omega arith)

-- the loans' own record stays: its mark, and its counts
pub struck_own : (at k : ℕ) (index loans : List ℕ) → k < loan_words → get_or (struck at index loans) k 0 ≡ get_or loans k 0
unfolding struck
struck_own at k index loans h =
    get_or-set_other (set loans (cell_of size_at loan_words (led_to index at)) 0) (cell_of serial_at loan_words (led_to index at)) k 0 0 (λ e. omega arith)
    ∙ get_or-set_other loans (cell_of size_at loan_words (led_to index at)) k 0 0 (λ e. omega arith)

pub struck_mark : (at : ℕ) (index loans : List ℕ) → get_or (struck at index loans) mark_at 0 ≡ get_or loans mark_at 0
struck_mark at index loans = struck_own at mark_at index loans (omega arith)

pub struck_index_mark : (at : ℕ) (index : List ℕ) → 0 < at → get_or (struck_index at index) mark_at 0 ≡ get_or index mark_at 0
unfolding struck_index
struck_index_mark at index h =
    get_or-set_other
    (set (set index at (get_or index (next_of (led_to index at)) 0)) (cell_of vacant_after_at entry_words (led_to index at)) (get_or index vacated_at 0))
    vacated_at mark_at (get_or index at 0) 0 (λ e. omega arith)
    ∙ get_or-set_other (set index at (get_or index (next_of (led_to index at)) 0)) (cell_of vacant_after_at entry_words (led_to index at)) mark_at (get_or index vacated_at 0) 0 (λ e. omega arith)
    ∙ get_or-set_other index at mark_at (get_or index (next_of (led_to index at)) 0) 0 (λ e. omega arith)

-- a word that leads to a loan is not the mark
seek_past : (loans index : List ℕ) (places serial at k : ℕ) → 0 < at → 0 < seek_in loans index places serial at k
unfolding seek_in
seek_past loans index places serial at zero h = omega arith
seek_past loans index places serial at (suc k) h =
    low (ltb (led_to index at) places) (eqb (serial_of loans (led_to index at)) serial) (seek_past loans index places serial (next_of (led_to index at)) k (omega arith))
  where
    low : (a b : Bool) → 0 < seek_in loans index places serial (next_of (led_to index at)) k → 0 < cond a (cond b at (seek_in loans index places serial (next_of (led_to index at)) k)) nowhere
    low true true r = h
    low true false r = r
    low false b r = omega arith

pub word_past_mark : (loans index : List ℕ) (n places serial : ℕ) → 0 < word_to loans index n places serial
unfolding word_to
word_past_mark loans index n places serial = seek_past loans index places serial (first_of (serial % n)) places (omega arith)
