-- What an ask says and leaves. 01, "freelist.rs", and the tests 5, 6, 8, 10 and 9.
use Rattle.std.specs.Prelude.{Bool, true, false, ◌&&◌, ◌||◌, not, cond, [], ◌∷◌, ℕ, ◌+◌, ◌-◌, leb, ltb, set, get_or}
use Rattle.rounding_rules.specs.Growth.{grown}
use Rattle.counter.specs.Limits.{spent}
use Rattle.counter.specs.Account.{heap_at}
use Rattle.counter.specs.Gate.{Verdict, pass, refuse, Row, first, gated}
use Rattle.counter.specs.Paper as Paper
use Rattle.counter.specs.Table.{alignment_ok}
use Rattle.counter.specs.declared.account.Account.{Account}
use Rattle.counter.specs.declared.account.Heap.{Heap}
use Rattle.std.specs.Prelude.{Some}
use Rattle.counter.specs.declared.settings.FreeListSettings.{FreeListSettings}
use Rattle.heap.specs.Heap.{bears_ok}
pub use Rattle.store_rules.specs.Orders.{Plan, deny, take, buy}
use Rattle.store_rules.specs.Orders.{order_from, kept_from}
use Rattle.store_rules.specs.Outcomes.{Out, out, with_order, block_said}
use Rattle.store_rules.specs.declared.Loan.{Loan}
use Rattle.book_rules.specs.Book.{taken_of, entered, entered_index}
use Rattle.freelist_rules.specs.Place.{size_for, mask_for, Found, nowhere, at, find, lent_loan}
use Rattle.freelist_rules.specs.Steps.{served, no_region}
use Rattle.freelist_rules.specs.Tables.{Tables, tables, chunk_size_at, places_in, chunks_in, store_of, gaps_in, whole_in, laid_gaps}
use Rattle.store_rules.specs.declared.Region.{Region}
use Rattle.freelist_outcomes.specs.Gate.{gate_of}
use Rattle.freelist_rules.specs.Threads.{no_gap, after_in, threaded, cut_gaps}
use Rattle.freelist_rules.specs.Release.{wholly}
use Rattle.slabs.specs.Slab.{record_of}

-- which region serves
abbrev pub found_for : FreeListSettings → ℕ → ℕ → Tables → Found
found_for s size mask t = find (mask_for s mask) (size_for s size) (store_of s t).regions

-- none does: a chunk is needed
abbrev pub needs : Found → Bool
needs nowhere = true
needs (at i) = false

-- "if none fits and size > chunk size, chunk size becomes" this, "before the order"
abbrev pub raised_for : FreeListSettings → ℕ → Tables → ℕ
raised_for s size t = grown (store_of s t).size (size_for s size) s.last

-- ---- the tests

-- 6: "size 0; free list: size above final"
unfoldable pub size_ok : FreeListSettings → ℕ → Bool
size_ok s size = ltb 0 size && leb size s.last

-- 8: "no loan place; or a chunk is needed and no chunk place is vacant"
unfoldable pub room_ok : FreeListSettings → Tables → Found → Bool
room_ok s t f =
    ltb (taken_of (places_in t) t.index).place s.store.loans && (not (needs f) || ltb (chunks_in t) s.store.chunks)

-- 10: "serials are spent; or a chunk is needed and heap used would pass 2^62, the 128-bit allocated total would overflow,
-- or chunk numbers are spent"
unfoldable pub count_ok : FreeListSettings → Heap → ℕ → Tables → Found → Bool
count_ok s h size t f =
    ltb (store_of s t).given spent && (not (needs f) || (bears_ok h (raised_for s size t) && ltb (store_of s t).made spent))

-- 9: "a chunk is needed and no device object remains"
unfoldable pub objects_ok : ℕ → Found → Bool
objects_ok objects f = not (needs f) || ltb 0 objects

-- of the store's heap and the device objects still allowed, where the search has found f
abbrev pub late_row : FreeListSettings → Heap → ℕ → ℕ → Tables → Found → Row
late_row s h objects size t f = (room_ok s t f, 8) ∷ (count_ok s h size t f, 10) ∷ (objects_ok objects f, 9) ∷ []

abbrev pub ask_row : FreeListSettings → Heap → ℕ → ℕ → ℕ → Tables → Found → Row
ask_row s h objects size mask t f = (alignment_ok mask, 5) ∷ (size_ok s size, 6) ∷ late_row s h objects size t f

-- what the ask comes to: the region that serves, or an order
abbrev pub planned : FreeListSettings → ℕ → Tables → Found → Verdict → Plan ℕ
planned s size t f (refuse n) = deny n
planned s size t (at i) pass = take i
planned s size t nowhere pass = buy (raised_for s size t)

unfoldable pub decide_ask : FreeListSettings → Heap → ℕ → ℕ → ℕ → Tables → Plan ℕ
decide_ask s h objects size mask t =
    planned s size t (found_for s size mask t) (first (ask_row s h objects size mask t (found_for s size mask t)))

-- ---- what is left

-- the block cut off region i, and the loan of it
abbrev pub block_at : FreeListSettings → ℕ → ℕ → Tables → ℕ → Region
block_at s size mask t i = served (mask_for s mask) (size_for s size) (store_of s t) i

abbrev pub loan_from : FreeListSettings → ℕ → ℕ → Tables → ℕ → Loan
loan_from s size mask t i = lent_loan ((store_of s t).given + 1) (block_at s size mask t i)

-- the record that the next loan takes, and the one in front of region i by place
abbrev pub record_for : Tables → ℕ
record_for t = record_of (taken_of (places_in t) t.index).place

abbrev pub front_at : Tables → ℕ → ℕ
front_at t i = (get_or (gaps_in t) i no_gap).front

-- how many regions are whole once the block is cut off region i: one less, if that was
abbrev pub whole_left : FreeListSettings → Tables → ℕ → ℕ
whole_left s t i = whole_in t - cond (wholly (store_of s t).chunks (get_or (store_of s t).regions i no_region)) 1 0

-- "The block runs from there to the region's end": it is cut off region i and lent; its loan is entered in the book, and stands behind
-- the one in front of the region
unfoldable pub taken_tables : FreeListSettings → ℕ → ℕ → Tables → ℕ → Tables
taken_tables s size mask t i =
    tables
    t.head
    (entered (places_in t) t.index (loan_from s size mask t i) t.loans)
    t.chunks
    (threaded s.store.loans (front_at t i) (record_for t) (after_in s.store.loans t.index (front_at t i))
    (entered_index s.store.loans (places_in t) (loan_from s size mask t i).serial t.index))
    (laid_gaps (cut_gaps (block_at s size mask t i).start i (record_for t) (gaps_in t)) (whole_left s t i) t.room)

-- an order raises the chunk size and is kept in the account
unfoldable pub ordered_tables : ℕ → Tables → Tables
ordered_tables z t = tables (set t.head chunk_size_at z) t.loans t.chunks t.index t.room

unfoldable pub carry_ask : FreeListSettings → Account → ℕ → ℕ → Tables → Plan ℕ → Out Tables
carry_ask s a size mask t (deny n) = out (Paper.refusal n []) a t
carry_ask s a size mask t (take i) = out (block_said (loan_from s size mask t i)) a (taken_tables s size mask t i)
carry_ask s a size mask t (buy z) =
    out (Paper.order_of (order_from s.store z)) (with_order a (Some (kept_from s.store size mask z))) (ordered_tables z t)

-- ---- the call

unfoldable pub plan_ask : FreeListSettings → Account → ℕ → ℕ → Tables → Plan ℕ
plan_ask s a size mask t = gated deny (gate_of s a t true) (decide_ask s (heap_at a s.store.heap) a.objects size mask t)

unfoldable pub ask_of : FreeListSettings → Account → ℕ → ℕ → Tables → Out Tables
ask_of s a size mask t = carry_ask s a size mask t (plan_ask s a size mask t)
