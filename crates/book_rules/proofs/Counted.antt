-- The counts of a book, written in the loans' own record, leave its mark and every loan.
use mathlib.Core.Path.{◌≡◌, ap, ◌∙◌}
use mathlib.Core.List.{List}
use Prim.Native.Nat.{ℕ, ◌+◌, ◌*◌, ◌≤◌}
use native.Mathlib.Omega.{arith}
use lib.Dec.{eqb}
use lib.ListN.{length, get_or, set, length-set}
use lib.Seq.{get_or-set_same, get_or-set_other}
use Rattle.words.specs.Words.{cell_of, mark_at}
use Rattle.words.specs.Rows.{rows}
use Rattle.words.proofs.Records.{rows_own, own_written}
use Rattle.slabs.specs.Slab.{vacant_at}
use Rattle.store_rules.specs.Loans.{given_at, places_at, loan_words, serial_at, size_at, loan_row, on_loan, loans_of}
use Rattle.store_rules.specs.declared.Loan.{Loan}
use Rattle.book_rules.specs.Book.{serial_of, taken_of, counted, entered}

module _ (given places : ℕ) (loans : List ℕ) where
  pub counted_long : length (counted given places loans) ≡ length loans
  unfolding counted
  counted_long = length-set (set loans given_at given) places_at places ∙ length-set loans given_at given

  pub counted_given : loan_words ≤ length loans → get_or (counted given places loans) given_at 0 ≡ given
  unfolding counted
  counted_given h = get_or-set_other (set loans given_at given) places_at given_at places 0 (λ e. omega arith) ∙ get_or-set_same loans given_at given 0 (omega arith)

  pub counted_places : loan_words ≤ length loans → get_or (counted given places loans) places_at 0 ≡ places
  unfolding counted
  counted_places h = get_or-set_same (set loans given_at given) places_at places 0 (omega (arith, length-set loans given_at given))

  counted_other : (k : ℕ) → (k ≡ given_at → ⊥) → (k ≡ places_at → ⊥) → get_or (counted given places loans) k 0 ≡ get_or loans k 0
  unfolding counted
  counted_other k a b = get_or-set_other (set loans given_at given) places_at k places 0 b ∙ get_or-set_other loans given_at k given 0 a

  pub counted_mark : get_or (counted given places loans) mark_at 0 ≡ get_or loans mark_at 0
  counted_mark = counted_other mark_at (λ e. omega arith) (λ e. omega arith)

  -- the words of every record but the table's own
  pub counted_cell : (k p : ℕ) → loan_words ≤ k → get_or (counted given places loans) (cell_of k loan_words p) 0 ≡ get_or loans (cell_of k loan_words p) 0
  counted_cell k p h = counted_other (cell_of k loan_words p) (λ e. omega arith) (λ e. omega arith)

  pub counted_serial : (p : ℕ) → serial_of (counted given places loans) p ≡ serial_of loans p
  counted_serial p = counted_cell serial_at p (omega arith)

  pub counted_vacant : (p : ℕ) → vacant_at (counted given places loans) size_at loan_words p ≡ vacant_at loans size_at loan_words p
  counted_vacant p = ap (λ (w : ℕ). eqb w 0) (counted_cell size_at p (omega arith))

  pub counted_loans : (n : ℕ) → loan_words + loan_words * n ≤ length loans → loans_of n (counted given places loans) ≡ loans_of n loans
  unfolding counted loans_of
  counted_loans n h =
      ap on_loan
      (rows_own loan_row n places_at places (set loans given_at given) (omega arith) (omega (arith, length-set loans given_at given))
      ∙ rows_own loan_row n given_at given loans (omega arith) h)

-- a loan entered is the last one given, and its place is counted
module _ (places : ℕ) (index : List ℕ) (l : Loan) (loans : List ℕ) where
  pub entered_given : loan_words ≤ length loans → get_or (entered places index l loans) given_at 0 ≡ l.serial
  unfolding entered
  entered_given h = own_written loan_row (taken_of places index).place l (counted l.serial (taken_of places index).slab.places loans) given_at 0 (omega arith) ∙ counted_given l.serial (taken_of places index).slab.places loans h

  pub entered_places : loan_words ≤ length loans → get_or (entered places index l loans) places_at 0 ≡ (taken_of places index).slab.places
  unfolding entered
  entered_places h = own_written loan_row (taken_of places index).place l (counted l.serial (taken_of places index).slab.places loans) places_at 0 (omega arith) ∙ counted_places l.serial (taken_of places index).slab.places loans h
