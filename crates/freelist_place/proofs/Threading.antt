-- The book's words stand in front of the thread's columns: a loan entered or struck out leaves these as they were.
use mathlib.Core.Path.{◌≡◌, ◌∙◌}
use mathlib.Core.List.{List}
use Prim.Native.Nat.{ℕ, ◌%◌, ◌≤◌, ◌<◌}
use native.Mathlib.Nat.{mod-lt}
use native.Mathlib.Omega.{arith}
use lib.ListN.{length, get_or, set, length-set}
use lib.Seq.{get_or-set_other}
use borrow.Author.Tests.{ne_eqb}
use Rattle.counter.specs.Limits.{loans_most}
use Rattle.words.specs.Words.{cell_of}
use Rattle.slabs.specs.Slab.{nowhere, record_of, place_of}
use Rattle.slabs.specs.declared.Taken.{Taken}
use Rattle.book_rules.specs.Book.{index_words, entry_words, vacated_at, vacant_after_at, first_of, next_of, led_to, struck_index}
use Rattle.freelist_place.specs.Lent.{entered_at}

-- the record of a place below the limit
pub record_low : (n p : ℕ) → n ≤ loans_most → p < n → record_of p ≤ n
record_low n p few h = rw (ne_eqb p nowhere (λ e. omega (arith, e))) (omega arith)

place_low : (n w : ℕ) → 0 < w → w ≤ n → place_of w < n
place_low n w some h = rw (ne_eqb w 0 (λ e. omega (arith, e))) (omega arith)

module _ (n : ℕ) (index : List ℕ) where
  module _ (k : Taken) (serial : ℕ) (some : 0 < n) (place : k.place < n) where
    pub entered_length : length (entered_at n k serial index) ≡ length index
    unfolding entered_at
    entered_length = simp (length-set, length-set, length-set)

    pub entered_behind : (j : ℕ) → index_words n ≤ j → get_or (entered_at n k serial index) j 0 ≡ get_or index j 0
    unfolding entered_at
    entered_behind j h =
        let one = set index vacated_at (record_of k.slab.vacant) in
        let two = set one (next_of k.place) (get_or index (first_of (serial % n)) 0) in
        get_or-set_other two (first_of (serial % n)) j (record_of k.place) 0 (λ e. omega (arith, e, h, mod-lt serial some))
        ∙ get_or-set_other one (next_of k.place) j (get_or index (first_of (serial % n)) 0) 0 (λ e. omega (arith, e, h, place))
        ∙ get_or-set_other index vacated_at j (record_of k.slab.vacant) 0 (λ e. omega (arith, e, h, some))

  module _ (at : ℕ) (word : at < index_words n) (some : 0 < get_or index at 0) (most : get_or index at 0 ≤ n) where
    pub struck_length : length (struck_index at index) ≡ length index
    unfolding struck_index
    struck_length = simp (length-set, length-set, length-set)

    pub struck_behind : (j : ℕ) → index_words n ≤ j → get_or (struck_index at index) j 0 ≡ get_or index j 0
    unfolding struck_index
    struck_behind j h =
        let one = set index at (get_or index (next_of (led_to index at)) 0) in
        let two = set one (cell_of vacant_after_at entry_words (led_to index at)) (get_or index vacated_at 0) in
        let low = place_low n (get_or index at 0) some most in
        get_or-set_other two vacated_at j (get_or index at 0) 0 (λ e. omega (arith, e, h, some, most))
        ∙ get_or-set_other one (cell_of vacant_after_at entry_words (led_to index at)) j (get_or index vacated_at 0) 0 (λ e. omega (arith, e, h, low))
        ∙ get_or-set_other index at j (get_or index (next_of (led_to index at)) 0) 0 (λ e. omega (arith, e, h, word))
