-- A region's block lent, where its start and the loan's place in the book are told: a plan carries them.
use Rattle.std.specs.Prelude.{List, ℕ, ◌+◌, ◌%◌, get_or, set}
use Rattle.words.specs.Rows.{written}
use Rattle.counter.specs.declared.settings.FreeListSettings.{FreeListSettings}
use Rattle.slabs.specs.Slab.{record_of}
use Rattle.slabs.specs.declared.Taken.{Taken}
use Rattle.store_rules.specs.Loans.{loan_row}
use Rattle.store_rules.specs.declared.Loan.{Loan}
use Rattle.store_rules.specs.declared.Region.{Region}
use Rattle.book_rules.specs.Book.{vacated_at, first_of, next_of, counted}
use Rattle.freelist_rules.specs.Records.{region}
use Rattle.freelist_rules.specs.Place.{lent_loan}
use Rattle.freelist_rules.specs.Steps.{no_region}
use Rattle.freelist_rules.specs.Threads.{after_in, threaded, cut_gaps}
use Rattle.freelist_rules.specs.Tables.{Tables, tables, store_of, gaps_in, laid_gaps}
use Rattle.freelist_outcomes.specs.Ask.{front_at, whole_left}

-- "The block runs from there to the region's end"
abbrev pub block_from : FreeListSettings → ℕ → Tables → ℕ → Region
block_from s start t i = region (get_or (store_of s t).regions i no_region).chunk start (get_or (store_of s t).regions i no_region).end

-- its loan, under the next serial
abbrev pub lent_from : FreeListSettings → ℕ → Tables → ℕ → Loan
lent_from s start t i = lent_loan ((store_of s t).given + 1) (block_from s start t i)

-- the place that a loan takes in the book, and the slab from then on
abbrev pub taken : ℕ → ℕ → ℕ → Taken
taken place places vacant = record { place = place; slab = record { places = places; vacant = vacant } }

-- the index with a loan of this serial at the place that it takes, the first of its chain
unfoldable pub entered_at : ℕ → Taken → ℕ → List ℕ → List ℕ
entered_at n k serial index =
    set
    (set (set index vacated_at (record_of k.slab.vacant)) (next_of k.place) (get_or index (first_of (serial % n)) 0))
    (first_of (serial % n))
    (record_of k.place)

-- the tables that region i's block on loan leaves: its loan stands behind the one in front of the region
unfoldable pub lent_tables : FreeListSettings → ℕ → Taken → Tables → ℕ → Tables
lent_tables s start k t i =
    tables
    t.head
    (written loan_row k.place (lent_from s start t i) (counted ((store_of s t).given + 1) k.slab.places t.loans))
    t.chunks
    (threaded s.store.loans (front_at t i) (record_of k.place) (after_in s.store.loans t.index (front_at t i))
    (entered_at s.store.loans k ((store_of s t).given + 1) t.index))
    (laid_gaps (cut_gaps start i (record_of k.place) (gaps_in t)) (whole_left s t i) t.room)
