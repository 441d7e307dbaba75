-- What the words of a book say after a loan is entered or struck out. The words that lead to a chain, on in a chain and on
-- among the vacant places are all different.
use mathlib.Core.Path.{◌≡◌, refl, sym, ap, ◌∙◌}
use mathlib.Core.Bool.{true, false}
use mathlib.Core.Logic.{⊎_elim}
use mathlib.Core.List.{List}
use Prim.Native.Nat.{ℕ, ◌*◌, ◌%◌, ◌<◌, ◌+◌, ◌≤◌}
use native.Mathlib.Omega.{arith}
use lib.Dec.{eqb}
use lib.ListN.{length, get_or, set, length-set}
use lib.Seq.{get_or-set_same, get_or-set_other}
use borrow.Author.Tests.{ne_eqb}
use Rattle.words.specs.Words.{cell_of}
use Rattle.words.specs.Rows.{written}
use Rattle.slabs.specs.Slab.{place_of, record_of, vacant_at, link_at, changed}
use Rattle.lists.proofs.Bools.{same?}
use Rattle.slabs.proofs.Links.{place_record}
use Rattle.slabs.proofs.Places.{vacant_set, link_here, link_other}
use Rattle.store_rules.specs.Loans.{loan_words, serial_at, size_at, loan_row, chunk_at, offset_at}
use Rattle.store_rules.specs.declared.Loan.{Loan}
use Rattle.book_rules.specs.Book.{entry_words, vacated_at, vacant_after_at, index_words, first_of, next_of, led_to, serial_of, first_in, next_in, struck, struck_index}
use Rattle.book_rules.proofs.Whole.{loan_written}

-- ---- a loan written at p

module _ (loans : List ℕ) (n p : ℕ) (l : Loan) (long : length loans ≡ loan_words + loan_words * n) (room : p < n) where
  abbrev one : List ℕ
  one = set loans (cell_of serial_at loan_words p) l.serial

  abbrev two : List ℕ
  two = set one (cell_of chunk_at loan_words p) l.chunk

  abbrev three : List ℕ
  three = set two (cell_of offset_at loan_words p) l.offset

  pub by_words : written loan_row p l loans ≡ set three (cell_of size_at loan_words p) l.size
  by_words = sym (loan_written loans p l.serial l.chunk l.offset l.size one two three _ refl refl refl refl)

  -- words other than its serial's leave the serials
  serial_one : (x : ℕ) → serial_of (written loan_row p l loans) x ≡ serial_of one x
  serial_one x =
      ap (λ (t : List ℕ). serial_of t x) by_words
      ∙ get_or-set_other three (cell_of size_at loan_words p) (cell_of serial_at loan_words x) l.size 0 (λ e. omega arith)
      ∙ get_or-set_other two (cell_of offset_at loan_words p) (cell_of serial_at loan_words x) l.offset 0 (λ e. omega arith)
      ∙ get_or-set_other one (cell_of chunk_at loan_words p) (cell_of serial_at loan_words x) l.chunk 0 (λ e. omega arith)

  pub serial_here : serial_of (written loan_row p l loans) p ≡ l.serial
  serial_here = serial_one p ∙ get_or-set_same loans (cell_of serial_at loan_words p) l.serial 0 (omega arith)

  pub serial_other : (x : ℕ) → (x ≡ p → ⊥) → serial_of (written loan_row p l loans) x ≡ serial_of loans x
  serial_other x o = serial_one x ∙ get_or-set_other loans (cell_of serial_at loan_words p) (cell_of serial_at loan_words x) l.serial 0 (λ e. o (omega arith))

  three_long : length three ≡ length loans
  three_long = length-set two (cell_of offset_at loan_words p) l.offset ∙ length-set one (cell_of chunk_at loan_words p) l.chunk ∙ length-set loans (cell_of serial_at loan_words p) l.serial

  size_three : (x : ℕ) → get_or three (cell_of size_at loan_words x) 0 ≡ get_or loans (cell_of size_at loan_words x) 0
  size_three x =
      get_or-set_other two (cell_of offset_at loan_words p) (cell_of size_at loan_words x) l.offset 0 (λ e. omega arith)
      ∙ get_or-set_other one (cell_of chunk_at loan_words p) (cell_of size_at loan_words x) l.chunk 0 (λ e. omega arith)
      ∙ get_or-set_other loans (cell_of serial_at loan_words p) (cell_of size_at loan_words x) l.serial 0 (λ e. omega arith)

  pub used_here : (l.size ≡ 0 → ⊥) → vacant_at (written loan_row p l loans) size_at loan_words p ≡ false
  used_here o =
      ap (λ (t : List ℕ). vacant_at t size_at loan_words p) by_words
      ∙ ap (λ (w : ℕ). eqb w 0) (get_or-set_same three (cell_of size_at loan_words p) l.size 0 (omega (arith, three_long)))
      ∙ ne_eqb l.size 0 o

  pub used_other : (x : ℕ) → (x ≡ p → ⊥) → vacant_at (written loan_row p l loans) size_at loan_words x ≡ vacant_at loans size_at loan_words x
  used_other x o =
      ap (λ (t : List ℕ). vacant_at t size_at loan_words x) by_words
      ∙ ap (λ (w : ℕ). eqb w 0) (get_or-set_other three (cell_of size_at loan_words p) (cell_of size_at loan_words x) l.size 0 (λ e. o (omega arith)) ∙ size_three x)

-- ---- p put first in chain c, before the place that the word f leads to, and v the word that leads to the place vacated last

module _ (index : List ℕ) (n c p f v : ℕ) (long : index_words n ≤ length index) (own : c < n) (room : p < n) where
  abbrev begun : List ℕ
  begun = set index vacated_at v

  abbrev linked : List ℕ
  linked = set begun (next_of p) f

  abbrev pub first_put : List ℕ
  first_put = set linked (first_of c) (record_of p)

  begun_long : length begun ≡ length index
  begun_long = length-set index vacated_at v

  linked_long : length linked ≡ length index
  linked_long = length-set begun (next_of p) f ∙ begun_long

  pub first_here : first_in first_put c ≡ p
  first_here = ap place_of (get_or-set_same linked (first_of c) (record_of p) 0 (omega (arith, linked_long))) ∙ place_record p

  pub first_other : (i : ℕ) → (i ≡ c → ⊥) → first_in first_put i ≡ first_in index i
  first_other i o =
      ap place_of
      (get_or-set_other linked (first_of c) (first_of i) (record_of p) 0 (λ e. o (omega arith))
      ∙ get_or-set_other begun (next_of p) (first_of i) f 0 (λ e. omega arith)
      ∙ get_or-set_other index vacated_at (first_of i) v 0 (λ e. omega arith))

  pub next_here : next_in first_put p ≡ place_of f
  next_here =
      ap place_of
      (get_or-set_other linked (first_of c) (next_of p) (record_of p) 0 (λ e. omega arith)
      ∙ get_or-set_same begun (next_of p) f 0 (omega (arith, begun_long)))

  pub next_other : (x : ℕ) → (x ≡ p → ⊥) → next_in first_put x ≡ next_in index x
  next_other x o =
      ap place_of
      (get_or-set_other linked (first_of c) (next_of x) (record_of p) 0 (λ e. omega arith)
      ∙ get_or-set_other begun (next_of p) (next_of x) f 0 (λ e. o (omega arith))
      ∙ get_or-set_other index vacated_at (next_of x) v 0 (λ e. omega arith))

  pub vacated_put : led_to first_put vacated_at ≡ place_of v
  vacated_put =
      ap place_of
      (get_or-set_other linked (first_of c) vacated_at (record_of p) 0 (λ e. omega arith)
      ∙ get_or-set_other begun (next_of p) vacated_at f 0 (λ e. omega arith)
      ∙ get_or-set_same index vacated_at v 0 (omega arith))

  pub link_put : (x : ℕ) → link_at first_put vacant_after_at entry_words x ≡ link_at index vacant_after_at entry_words x
  link_put x =
      ap place_of
      (get_or-set_other linked (first_of c) (cell_of vacant_after_at entry_words x) (record_of p) 0 (λ e. omega arith)
      ∙ get_or-set_other begun (next_of p) (cell_of vacant_after_at entry_words x) f 0 (λ e. omega arith)
      ∙ get_or-set_other index vacated_at (cell_of vacant_after_at entry_words x) v 0 (λ e. omega arith))

-- ---- the loan at p struck out

-- its size and its serial are 0
abbrev pub cleared : List ℕ → ℕ → List ℕ
cleared loans p = set (set loans (cell_of size_at loan_words p) 0) (cell_of serial_at loan_words p) 0

module _ (loans : List ℕ) (n p : ℕ) (long : length loans ≡ loan_words + loan_words * n) (room : p < n) where
  abbrev unsized : List ℕ
  unsized = set loans (cell_of size_at loan_words p) 0

  pub serial_kept : (x : ℕ) → (x ≡ p → ⊥) → serial_of (cleared loans p) x ≡ serial_of loans x
  serial_kept x o =
      get_or-set_other unsized (cell_of serial_at loan_words p) (cell_of serial_at loan_words x) 0 0 (λ e. o (omega arith))
      ∙ get_or-set_other loans (cell_of size_at loan_words p) (cell_of serial_at loan_words x) 0 0 (λ e. omega arith)

  pub serial_gone : serial_of (cleared loans p) p ≡ 0
  serial_gone = get_or-set_same unsized (cell_of serial_at loan_words p) 0 0 (omega (arith, length-set loans (cell_of size_at loan_words p) 0))

  pub size_gone : get_or (cleared loans p) (cell_of size_at loan_words p) 0 ≡ 0
  size_gone =
      get_or-set_other unsized (cell_of serial_at loan_words p) (cell_of size_at loan_words p) 0 0 (λ e. omega arith)
      ∙ get_or-set_same loans (cell_of size_at loan_words p) 0 0 (omega arith)

  pub vacant_now : (x : ℕ) → vacant_at (cleared loans p) size_at loan_words x ≡ changed (vacant_at loans size_at loan_words) p true x
  vacant_now x =
      ap (λ (w : ℕ). eqb w 0) (get_or-set_other unsized (cell_of serial_at loan_words p) (cell_of size_at loan_words x) 0 0 (λ e. omega arith))
      ∙ vacant_set loans size_at loan_words p 0 x (omega arith) (omega arith)

-- a record struck out says so by both words
pub struck_gone : (at : ℕ) (index loans : List ℕ) (n : ℕ) → length loans ≡ loan_words + loan_words * n → led_to index at < n
    → (serial_of (struck at index loans) (led_to index at) ≡ 0) × (get_or (struck at index loans) (cell_of size_at loan_words (led_to index at)) 0 ≡ 0)
unfolding struck
struck_gone at index loans n long room = (serial_gone loans n (led_to index at) long room, size_gone loans n (led_to index at) long room)

-- the word at `at`, which leads to p, leads past it; `at` is no word that leads on among the vacant places
module _ (index : List ℕ) (n at p : ℕ) (wide : index_words n ≤ length index) (room : p < n) (inside : at < index_words n)
    (chained : at % 3 ≡ 2 → ⊥) (leads : led_to index at ≡ p) where
  abbrev cut : List ℕ
  cut = set index at (get_or index (next_of p) 0)

  abbrev freed : List ℕ
  freed = set cut (cell_of vacant_after_at entry_words p) (get_or index vacated_at 0)

  struck_as : struck_index at index ≡ set freed vacated_at (get_or index at 0)
  unfolding struck_index
  struck_as = ap (λ (q : ℕ). set (set (set index at (get_or index (next_of q) 0)) (cell_of vacant_after_at entry_words q) (get_or index vacated_at 0)) vacated_at (get_or index at 0)) leads

  cut_long : length cut ≡ length index
  cut_long = length-set index at (get_or index (next_of p) 0)

  freed_long : length freed ≡ length index
  freed_long = length-set cut (cell_of vacant_after_at entry_words p) (get_or index vacated_at 0) ∙ cut_long

  pub struck_stays : (v : ℕ) → (v % 3 ≡ 2 → ⊥) → (v ≡ at → ⊥) → led_to (struck_index at index) v ≡ led_to index v
  struck_stays v o e =
      ap (λ (t : List ℕ). led_to t v) struck_as
      ∙ ap place_of
      (get_or-set_other freed vacated_at v (get_or index at 0) 0 (λ z. o (omega arith))
      ∙ get_or-set_other cut (cell_of vacant_after_at entry_words p) v (get_or index vacated_at 0) 0 (λ z. o (omega arith))
      ∙ get_or-set_other index at v (get_or index (next_of p) 0) 0 e)

  pub struck_past : led_to (struck_index at index) at ≡ next_in index p
  struck_past =
      ap (λ (t : List ℕ). led_to t at) struck_as
      ∙ ap place_of
      (get_or-set_other freed vacated_at at (get_or index at 0) 0 (λ z. chained (omega arith))
      ∙ get_or-set_other cut (cell_of vacant_after_at entry_words p) at (get_or index vacated_at 0) 0 (λ z. chained (omega arith))
      ∙ get_or-set_same index at (get_or index (next_of p) 0) 0 (omega arith))

  pub struck_vacated : led_to (struck_index at index) vacated_at ≡ p
  struck_vacated =
      ap (λ (t : List ℕ). led_to t vacated_at) struck_as
      ∙ ap place_of (get_or-set_same freed vacated_at (get_or index at 0) 0 (omega (arith, freed_long)))
      ∙ leads

  -- the links of the vacant places are those of a removal from the slab
  pub struck_link : (x : ℕ) → link_at (struck_index at index) vacant_after_at entry_words x ≡ link_at (set index (cell_of vacant_after_at entry_words p) (record_of (led_to index vacated_at))) vacant_after_at entry_words x
  struck_link x =
      ap (λ (t : List ℕ). link_at t vacant_after_at entry_words x) struck_as
      ∙ ap place_of (get_or-set_other freed vacated_at (cell_of vacant_after_at entry_words x) (get_or index at 0) 0 (λ z. omega arith))
      ∙ ⊎_elim here other (same? x p)
    where
      v : ℕ
      v = record_of (led_to index vacated_at)

      here : x ≡ p → link_at freed vacant_after_at entry_words x ≡ link_at (set index (cell_of vacant_after_at entry_words p) v) vacant_after_at entry_words x
      here e =
          ap (link_at freed vacant_after_at entry_words) e
          ∙ ap place_of (get_or-set_same cut (cell_of vacant_after_at entry_words p) (get_or index vacated_at 0) 0 (omega (arith, cut_long)))
          ∙ sym (ap (link_at (set index (cell_of vacant_after_at entry_words p) v) vacant_after_at entry_words) e ∙ link_here index vacant_after_at entry_words p (led_to index vacated_at) (omega arith))

      other : (x ≡ p → ⊥) → link_at freed vacant_after_at entry_words x ≡ link_at (set index (cell_of vacant_after_at entry_words p) v) vacant_after_at entry_words x
      other o =
          link_other cut vacant_after_at entry_words p (get_or index vacated_at 0) x (omega arith) o
          ∙ ap place_of (get_or-set_other index at (cell_of vacant_after_at entry_words x) (get_or index (next_of p) 0) 0 (λ z. chained (omega arith)))
          ∙ sym (link_other index vacant_after_at entry_words p v x (omega arith) o)
