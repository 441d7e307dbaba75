-- What an ask of a buddy store says and leaves. 01, "buddy.rs", and the tests 5, 6, 8, 10 and 9.
use Rattle.std.specs.Prelude.{Bool, true, false, cond, ◌&&◌, ◌||◌, not, List, [], ◌∷◌, ℕ, zero, suc, ◌+◌, ◌-◌, max, eqb, leb, ltb, set}
use Rattle.rounding_rules.specs.Raising.{up_to, power_up, level_of}
use Rattle.counter.specs.Account.{heap_at}
use Rattle.counter.specs.Gate.{Verdict, pass, refuse, Row, first, gated}
use Rattle.counter.specs.Limits.{levels_most, spent}
use Rattle.counter.specs.Paper as Paper
use Rattle.counter.specs.Table.{alignment_ok}
use Rattle.counter.specs.declared.account.Account.{Account}
use Rattle.counter.specs.declared.account.Heap.{Heap}
use Rattle.std.specs.Prelude.{Some}
use Rattle.counter.specs.declared.settings.BuddySettings.{BuddySettings}
use Rattle.heap.specs.Heap.{bears_ok}
use Rattle.slabs.specs.Slab.{inserted}
use Rattle.slabs.specs.Slab as Slab
use Rattle.slabs.specs.declared.Taken.{Taken}
use Rattle.store_rules.specs.Loans.{loan}
pub use Rattle.store_rules.specs.Orders.{Plan, deny, take, buy}
use Rattle.store_rules.specs.Orders.{order_from, kept_from}
use Rattle.store_rules.specs.Outcomes.{Out, out, with_order, block_said}
use Rattle.store_rules.specs.declared.Loan.{Loan}
use Rattle.book_rules.specs.Book.{taken_of, entered, entered_index}
use Rattle.buddy_trees.specs.Trees.{bytes}
use Rattle.buddy_rules.specs.Nodes.{free_word, Ent}
use Rattle.buddy_rules.specs.Levels.{base_of}
use Rattle.buddy_rules.specs.Level.{ent_of, ring_head, pair_taken, acquired, fresh_level}
use Rattle.buddy_rules.specs.Tables.{Tables, tables, levels_at, given_in, levels_in, places_in, level_from, place_at, after_at, place_words, nodes_from, chunk_slab}
use Rattle.buddy_rules.specs.Moves.{Cut, split_down, ready_node}
use Rattle.buddy_outcomes.specs.Gate.{gate_of}

-- ---- what is looked for

-- "With a = mask OR atom mask OR (minimal - 1)": of masks the greatest holds the others
abbrev pub mask_for : BuddySettings → ℕ → ℕ
mask_for s mask = max mask (max s.store.atom (s.minimal - 1))

-- "the size is raised to a multiple of a + 1, then to a power of two"
unfoldable pub size_for : BuddySettings → ℕ → ℕ → ℕ
size_for s size mask = power_up (up_to size (mask_for s mask))

-- "Level = its trailing zeros less those of minimal"
unfoldable pub level_for : BuddySettings → ℕ → ℕ → ℕ
level_for s size mask = level_of (size_for s size mask) s.minimal

-- "Levels grow to hold it": to hold level l
abbrev pub grown_to : ℕ → Tables → ℕ
grown_to l t = max (levels_in t) (l + 1)

-- "Search upward; the first level with a ready side ends the search": of the levels from l on, n of them
pub data Found : Type 0 where
  nowhere : Found
  at : ℕ → Found

unfoldable pub search_from : BuddySettings → List ℕ → ℕ → ℕ → Found
search_from s t l zero = nowhere
search_from s t l (suc n) = cond (eqb (ring_head (level_from s l) t) Slab.nowhere) (search_from s t (suc l) n) (at l)

unfoldable pub found_from : BuddySettings → ℕ → Tables → Found
found_from s l t = search_from s t.room l (levels_in t - l)

abbrev pub needs : Found → Bool
needs nowhere = true
needs (at i) = false

-- the level from which the node is split down to level l: the one found, or that above the top
abbrev pub split_from : ℕ → Tables → Found → ℕ
split_from l t nowhere = grown_to l t
split_from l t (at i) = i

-- "If none up to the top level t, order minimal x 2^(t+1)"
abbrev pub order_bytes : BuddySettings → ℕ → Tables → ℕ
order_bytes s l t = bytes s.minimal (grown_to l t)

-- ---- the tests

-- 6: "size 0; buddy: rounding overflows or the level would be 32 or more": the level is below a cap
abbrev pub fits_at : ℕ → BuddySettings → ℕ → Bool
fits_at cap s z = ltb z (bytes s.minimal cap)

unfoldable pub size_ok : BuddySettings → ℕ → ℕ → Bool
size_ok s size mask = ltb 0 size && fits_at levels_most s (size_for s size mask)

-- a level has a vacant pair place, or is not there yet
abbrev pub pair_room : BuddySettings → Tables → ℕ → Bool
pair_room s t l = leb (levels_in t) l || ltb (pair_taken (level_from s l) t.room).place s.pairs

-- of the levels from l on, n of them
unfoldable pub pairs_room : BuddySettings → Tables → ℕ → ℕ → Bool
pairs_room s t l zero = true
pairs_room s t l (suc n) = pair_room s t l && pairs_room s t (suc l) n

-- the chunk place that is taken next
abbrev pub chunk_taken : BuddySettings → Tables → Taken
chunk_taken s t = inserted (chunk_slab s t) t.room (place_at s after_at) place_words

-- 8: "no loan place; or a chunk is needed and no chunk place is vacant; or a level that needs a new pair has none"
unfoldable pub room_ok : BuddySettings → ℕ → Tables → Found → Bool
room_ok s l t f =
    ltb (taken_of (places_in t) t.index).place s.store.loans
    && ((not (needs f) || ltb (chunk_taken s t).place s.store.chunks) && pairs_room s t l (split_from l t f - l))

-- 10: "serials are spent; or a chunk is needed and heap used would pass 2^62, the 128-bit allocated total would overflow"
unfoldable pub count_ok : BuddySettings → Heap → ℕ → Tables → Found → Bool
count_ok s h l t f = ltb (given_in t) spent && (not (needs f) || bears_ok h (order_bytes s l t))

-- 9: "a chunk is needed and no device object remains"
unfoldable pub objects_ok : ℕ → Found → Bool
objects_ok objects f = not (needs f) || ltb 0 objects

-- from 8 on, of an ask of level l for which the search has found f
abbrev pub late_row : BuddySettings → Heap → ℕ → ℕ → Tables → Found → Row
late_row s h objects l t f = (room_ok s l t f, 8) ∷ (count_ok s h l t f, 10) ∷ (objects_ok objects f, 9) ∷ []

abbrev pub ask_row : BuddySettings → Heap → ℕ → ℕ → ℕ → Tables → Found → Row
ask_row s h objects size mask t f =
    (alignment_ok mask, 5) ∷ (size_ok s size mask, 6) ∷ late_row s h objects (level_for s size mask) t f

-- what the ask comes to: the level that serves, or an order
abbrev pub planned : BuddySettings → ℕ → Tables → Found → Verdict → Plan ℕ
planned s l t f (refuse n) = deny n
planned s l t (at i) pass = take i
planned s l t nowhere pass = buy (order_bytes s l t)

unfoldable pub decide_ask : BuddySettings → Heap → ℕ → ℕ → ℕ → Tables → Plan ℕ
decide_ask s h objects size mask t =
    planned s (level_for s size mask) t (found_from s (level_for s size mask) t) (first (ask_row s h objects size mask t (found_from s (level_for s size mask) t)))

-- ---- what is left

-- levels from l on, n of them, are there and empty
unfoldable pub fresh_levels : BuddySettings → ℕ → ℕ → List ℕ → List ℕ
fresh_levels s l zero t = t
fresh_levels s l (suc n) t = fresh_levels s (suc l) n (fresh_level (level_from s l) t)

unfoldable pub grown_tables : BuddySettings → ℕ → Tables → Tables
grown_tables s n t =
    tables (set t.head levels_at n) t.loans t.chunks t.index (fresh_levels s (levels_in t) (n - levels_in t) t.room)

-- a loan of this chunk, offset and size is entered in the book, and its node beside it; the tree is as the cut leaves it
unfoldable pub booked_tables : BuddySettings → ℕ → ℕ → ℕ → Cut → Tables → Tables
booked_tables s c o size cut t =
    tables
    t.head
    (entered (places_in t) t.index (loan (given_in t + 1) c o size) t.loans)
    t.chunks
    (set (entered_index s.store.loans (places_in t) (given_in t + 1) t.index) (nodes_from s + ((taken_of (places_in t) t.index).place + 1)) cut.node)
    cut.room

-- the head pair's entry of level i, whose ready side serves
abbrev pub head_ent : BuddySettings → Tables → ℕ → Ent
head_ent s t i = ent_of (level_from s i) t.room (ring_head (level_from s i) t.room)

-- the loan of z bytes that it gives
abbrev pub loan_from : BuddySettings → ℕ → Tables → ℕ → Loan
loan_from s z t i = loan (given_in t + 1) (head_ent s t i).chunk (base_of s.minimal (head_ent s t i) i) z

-- "The taken node is split down to the level, always keeping the left": to level l, for a loan of z bytes
unfoldable pub taken_tables : BuddySettings → ℕ → ℕ → Tables → ℕ → Tables
taken_tables s z l t i =
    booked_tables s (loan_from s z t i).chunk (loan_from s z t i).offset z
    (split_down s.pairs l (loan_from s z t i).chunk (loan_from s z t i).offset (taken_of (places_in t) t.index).place (ready_node s.pairs i t.room) (i - l)
    (acquired (level_from s i) free_word t.room))
    t

-- "9 in a buddy store leaves the levels grown as the ask needs", an ask of level l
unfoldable pub denied_tables : BuddySettings → ℕ → ℕ → Tables → Tables
denied_tables s l n t = cond (eqb n 9) (grown_tables s (grown_to l t) t) t

unfoldable pub carry_ask : BuddySettings → Account → ℕ → ℕ → Tables → Plan ℕ → Out Tables
carry_ask s a size mask t (deny n) = out (Paper.refusal n []) a (denied_tables s (level_for s size mask) n t)
carry_ask s a size mask t (take i) = out (block_said (loan_from s (size_for s size mask) t i)) a (taken_tables s (size_for s size mask) (level_for s size mask) t i)
carry_ask s a size mask t (buy z) =
    out (Paper.order_of (order_from s.store z)) (with_order a (Some (kept_from s.store size mask z))) (grown_tables s (grown_to (level_for s size mask) t) t)

-- ---- the call

unfoldable pub plan_ask : BuddySettings → Account → ℕ → ℕ → Tables → Plan ℕ
plan_ask s a size mask t = gated deny (gate_of s a t true) (decide_ask s (heap_at a s.store.heap) a.objects size mask t)

unfoldable pub ask_of : BuddySettings → Account → ℕ → ℕ → Tables → Out Tables
ask_of s a size mask t = carry_ask s a size mask t (plan_ask s a size mask t)
