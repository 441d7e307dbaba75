-- A loan entered step by step is entered as the book says.
use Rattle.std.proofs.Common.{◌≡◌, ℕ, ◌%◌, List, get_or, set, ap, ◌∙◌}
use Rattle.words.specs.Rows.{written}
use Rattle.slabs.specs.Slab.{record_of, inserted}
use Rattle.slabs.specs.declared.Taken.{Taken}
use Rattle.store_rules.specs.Loans.{loan_row}
use Rattle.store_rules.specs.declared.Loan.{Loan}
use Rattle.book_rules.specs.Book.{entry_words, vacated_at, vacant_after_at, first_of, next_of, led_to, taken_of, counted, entered, entered_index}

module _ (places : ℕ) (index : List ℕ) (t : Taken) where
  pub slab_read : (v : ℕ) → v ≡ led_to index vacated_at → t ≡ inserted (record { places = places; vacant = v }) index vacant_after_at entry_words → t ≡ taken_of places index
  slab_read v e f = f ∙ ap (λ (w : ℕ). inserted (record { places = places; vacant = w }) index vacant_after_at entry_words) e

  pub entered_loans : (l : Loan) (loans x : List ℕ) → t ≡ taken_of places index → x ≡ written loan_row t.place l (counted l.serial t.slab.places loans) → x ≡ entered places index l loans
  unfolding entered
  entered_loans l loans x e f = f ∙ ap (λ (u : Taken). written loan_row u.place l (counted l.serial u.slab.places loans)) e

  pub entered_index_lem : (n serial first : ℕ) (x : List ℕ) → t ≡ taken_of places index → first ≡ get_or index (first_of (serial % n)) 0
      → x ≡ set (set (set index vacated_at (record_of t.slab.vacant)) (next_of t.place) first) (first_of (serial % n)) (record_of t.place) → x ≡ entered_index n places serial index
  unfolding entered_index
  entered_index_lem n serial first x e f g =
      g ∙ rw f (ap (λ (u : Taken). set (set (set index vacated_at (record_of u.slab.vacant)) (next_of u.place) (get_or index (first_of (serial % n)) 0)) (first_of (serial % n)) (record_of u.place)) e)
