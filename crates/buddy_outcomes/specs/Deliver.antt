-- What a delivery to a buddy store says and leaves. 01, "buddy.rs", and the tests 13, 11 and 12.
use Rattle.std.specs.Prelude.{Bool, false, ◌&&◌, List, [], ℕ, ◌+◌, ◌-◌, set}
use Rattle.words.specs.Words.{cell_of}
use Rattle.slabs.specs.Slab.{record_of}
use Rattle.counter.specs.Account.{heap_at}
use Rattle.counter.specs.Gate.{Verdict, first, gated}
use Rattle.counter.specs.Paper as Paper
use Rattle.counter.specs.declared.account.Account.{Account}
use Rattle.counter.specs.declared.account.KeptOrder.{KeptOrder}
use Rattle.counter.specs.Open.{OpenOrder}
use Rattle.std.specs.Prelude.{None, Some}
use Rattle.counter.specs.declared.answers.Outcome.{Outcome}
use Rattle.counter.specs.declared.settings.BuddySettings.{BuddySettings}
pub use Rattle.store_rules.specs.Arrivals.{Arrival, deny, go, arrival_of}
use Rattle.store_rules.specs.Delivery.{Fate, kept, lost, buddy}
use Rattle.store_rules.specs.Loans.{loan}
use Rattle.store_rules.specs.Orders.{leads_to}
use Rattle.store_rules.specs.Outcomes.{Out, out, charged_account, lost_account, block_said}
use Rattle.store_rules.specs.Tests.{open_for, gate_row}
use Rattle.store_rules.specs.declared.Loan.{Loan}
use Rattle.book_rules.specs.Book.{taken_of}
use Rattle.buddy_rules.specs.Nodes.{split_word}
use Rattle.buddy_rules.specs.Level.{pair_taken}
use Rattle.buddy_rules.specs.Tables.{Tables, tables, chunk_places_at, chunk_words, memory_at, chunk_size_at, given_in, levels_in, places_in, chunk_places_in, memories, level_from, chunks_from, place_at, top_at, place_words}
use Rattle.buddy_rules.specs.Moves.{split_chunk}
use Rattle.buddy_rules.specs.Test.{sound_ok}
use Rattle.buddy_outcomes.specs.Gate.{in_table_ok, account_ok}
use Rattle.buddy_outcomes.specs.Ask.{size_for, level_for, grown_to, chunk_taken, grown_tables, booked_tables, decide_ask}

-- 3 on a delivery: the kept ask still leads to the order that was told
abbrev pub still_ok : BuddySettings → Account → Tables → OpenOrder → Bool
still_ok s a t None = false
still_ok s a t (Some k) =
    leads_to s.store k.order (decide_ask s (heap_at a s.store.heap) a.objects k.ask.size k.ask.mask t)

unfoldable pub deliver_gate_of : BuddySettings → Account → Tables → Verdict
deliver_gate_of s a t =
    first (gate_row (in_table_ok s a t) (open_for s.store.number a.order) (sound_ok s t && still_ok s a t a.order) (account_ok s a t))

-- ---- a chunk of z bytes at the place that is taken next; its top node is split into the pair that the top level takes next

unfoldable pub chunk_tables : BuddySettings → ℕ → ℕ → Tables → Tables
chunk_tables s memory z t =
    tables
    t.head
    t.loans
    (set (set (set t.chunks chunk_places_at (chunk_taken s t).slab.places) (cell_of memory_at chunk_words (chunk_taken s t).place) memory) (cell_of chunk_size_at chunk_words (chunk_taken s t).place) z)
    t.index
    (set (set t.room (chunks_from s) (record_of (chunk_taken s t).slab.vacant)) (cell_of (place_at s top_at) place_words (chunk_taken s t).place)
    (split_word (pair_taken (level_from s (levels_in t - 1)) t.room).place))

abbrev pub loan_in : BuddySettings → ℕ → ℕ → Tables → Loan
loan_in s size mask t = loan (given_in t + 1) (chunk_taken s t).place 0 (size_for s size mask)

-- its left end is lent, z bytes of level l: of tables whose levels have grown
unfoldable pub served_tables : BuddySettings → ℕ → ℕ → ℕ → ℕ → Tables → Tables
served_tables s z l memory bytes t =
    booked_tables s (chunk_taken s t).place 0 z
    (split_chunk s.pairs l (chunk_taken s t).place (taken_of (places_in t) t.index).place (levels_in t - l - 1) (chunk_tables s memory bytes t).room)
    (chunk_tables s memory bytes t)

-- the levels as the order raised them
abbrev pub as_ordered : BuddySettings → KeptOrder → Tables → Tables
as_ordered s k t = grown_tables s (grown_to (level_for s k.ask.size k.ask.mask) t) t

unfoldable pub carry_fate : BuddySettings → Account → KeptOrder → Tables → Fate → Out Tables
carry_fate s a k t (kept memory) =
    out
    (block_said (loan_in s k.ask.size k.ask.mask (as_ordered s k t)))
    (charged_account s.store a k.order.size)
    (served_tables s (size_for s k.ask.size k.ask.mask) (level_for s k.ask.size k.ask.mask) memory k.order.size (as_ordered s k t))
carry_fate s a k t (lost n charged back) =
    out (Paper.refusal n back) (lost_account s.store a k.order.size charged back) (as_ordered s k t)

-- 13
abbrev pub decide_deliver : Outcome → List ℕ → OpenOrder → Arrival
decide_deliver = arrival_of buddy

unfoldable pub plan_deliver : BuddySettings → Account → Outcome → Tables → Arrival
plan_deliver s a o t = gated deny (deliver_gate_of s a t) (decide_deliver o (memories t (chunk_places_in t)) a.order)

unfoldable pub carry_deliver : BuddySettings → Account → Tables → Arrival → Out Tables
carry_deliver s a t (deny n) = out (Paper.refusal n []) a t
carry_deliver s a t (go k f) = carry_fate s a k t f

unfoldable pub deliver_of : BuddySettings → Account → Outcome → Tables → Out Tables
deliver_of s a o t = carry_deliver s a t (plan_deliver s a o t)
