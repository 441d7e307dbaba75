-- The book of a store's loans. The loans stand in a slab, so that a loan's place stays; `index` has what can be made again
-- from them: the place vacated last, and for each i below the limit n the first place of chain i, the place after i in its
-- chain, and the vacant place after i. A loan is in the chain of its serial modulo n, the newest first.
use Rattle.std.specs.Prelude.{cond, List, ℕ, zero, suc, ◌+◌, ◌*◌, ◌%◌, eqb, ltb, get_or, set}
use Rattle.words.specs.Words.{cell_of}
use Rattle.words.specs.Rows.{written}
use Rattle.slabs.specs.Slab.{nowhere, place_of, record_of, inserted}
use Rattle.slabs.specs.declared.Slab.{Slab}
use Rattle.slabs.specs.declared.Taken.{Taken}
use Rattle.store_rules.specs.Loans.{given_at, places_at, loan_words, serial_at, size_at, loan_row}
use Rattle.store_rules.specs.declared.Loan.{Loan}

-- ---- where the words of the index stand

abbrev pub entry_words : ℕ
entry_words = 3

-- of its own record: where the chain of vacant places begins
abbrev pub vacated_at : ℕ
vacated_at = 2

-- of the record of chain 0 and place 0
abbrev pub first_at : ℕ
first_at = 3

abbrev pub next_at : ℕ
next_at = 4

abbrev pub vacant_after_at : ℕ
vacant_after_at = 5

-- how many words the entries of n loans take; an index may have columns behind them
abbrev pub index_words : ℕ → ℕ
index_words n = entry_words + entry_words * n

-- the words that lead to chain i, and on from place p
abbrev pub first_of : ℕ → ℕ
first_of i = cell_of first_at entry_words i

abbrev pub next_of : ℕ → ℕ
next_of p = cell_of next_at entry_words p

-- ---- what they say: a link is the number of a record, 0 for none

-- the place that a word of the index leads to
abbrev pub led_to : List ℕ → ℕ → ℕ
led_to index at = place_of (get_or index at 0)

abbrev pub serial_of : List ℕ → ℕ → ℕ
serial_of loans p = get_or loans (cell_of serial_at loan_words p) 0

abbrev pub slab_of : ℕ → List ℕ → Slab
slab_of places index = record { places = places; vacant = led_to index vacated_at }

-- the first place of chain i, and the one after p in its chain
abbrev pub first_in : List ℕ → ℕ → ℕ
first_in index i = led_to index (first_of i)

abbrev pub next_in : List ℕ → ℕ → ℕ
next_in index p = led_to index (next_of p)

-- ---- a loan is entered

-- the place that it takes, and the slab from then on
abbrev pub taken_of : ℕ → List ℕ → Taken
taken_of places index = inserted (slab_of places index) index vacant_after_at entry_words

-- so many serials are given and so many places used, by the loans' own record
unfoldable pub counted : ℕ → ℕ → List ℕ → List ℕ
counted given places loans = set (set loans given_at given) places_at places

-- its serial is the last one given, and its record is written at its place
unfoldable pub entered : ℕ → List ℕ → Loan → List ℕ → List ℕ
entered places index l loans =
    written loan_row (taken_of places index).place l (counted l.serial (taken_of places index).slab.places loans)

-- and it becomes the first of its chain
unfoldable pub entered_index : ℕ → ℕ → ℕ → List ℕ → List ℕ
entered_index n places serial index =
    set
    (set
    (set index vacated_at (record_of (taken_of places index).slab.vacant))
    (next_of (taken_of places index).place)
    (get_or index (first_of (serial % n)) 0))
    (first_of (serial % n))
    (record_of (taken_of places index).place)

-- ---- a loan is looked for by its serial

-- the word that leads to the place with this serial: `at` itself, or one of the next k of its chain; else nowhere
unfoldable pub seek_in : List ℕ → List ℕ → ℕ → ℕ → ℕ → ℕ → ℕ
seek_in loans index places serial at zero = nowhere
seek_in loans index places serial at (suc k) =
    cond (ltb (led_to index at) places)
    (cond (eqb (serial_of loans (led_to index at)) serial) at (seek_in loans index places serial (next_of (led_to index at)) k))
    nowhere

-- in its chain
unfoldable pub word_to : List ℕ → List ℕ → ℕ → ℕ → ℕ → ℕ
word_to loans index n places serial = seek_in loans index places serial (first_of (serial % n)) places

-- ---- the loan that a word leads to is struck out

-- its place is marked as vacant: size 0, and serial 0
unfoldable pub struck : ℕ → List ℕ → List ℕ → List ℕ
struck at index loans =
    set (set loans (cell_of size_at loan_words (led_to index at)) 0) (cell_of serial_at loan_words (led_to index at)) 0

-- the chain goes past it, and it is the place vacated last
unfoldable pub struck_index : ℕ → List ℕ → List ℕ
struck_index at index =
    set
    (set
    (set index at (get_or index (next_of (led_to index at)) 0))
    (cell_of vacant_after_at entry_words (led_to index at))
    (get_or index vacated_at 0))
    vacated_at
    (get_or index at 0)
