-- What a delivery says and leaves. 01, "freelist.rs": "After a good delivery it doubles, up to final", and the tests 13, 11
-- and 12.
use Rattle.std.specs.Prelude.{Bool, false, ◌&&◌, List, [], ◌∷◌, ◌++◌, ℕ, ◌+◌, length, set}
use Rattle.rounding_rules.specs.Growth.{doubled}
use Rattle.counter.specs.Account.{heap_at}
use Rattle.counter.specs.Gate.{Verdict, first, gated}
use Rattle.counter.specs.Paper as Paper
use Rattle.counter.specs.declared.account.Account.{Account}
use Rattle.counter.specs.declared.account.KeptOrder.{KeptOrder}
use Rattle.counter.specs.Open.{OpenOrder}
use Rattle.std.specs.Prelude.{None, Some}
use Rattle.counter.specs.declared.answers.Outcome.{Outcome}
use Rattle.counter.specs.declared.settings.FreeListSettings.{FreeListSettings}
pub use Rattle.store_rules.specs.Arrivals.{Arrival, deny, go, arrival_of}
use Rattle.store_rules.specs.Delivery.{Fate, kept, lost, free_list}
use Rattle.store_rules.specs.Orders.{leads_to}
use Rattle.store_rules.specs.Outcomes.{Out, out, charged_account, lost_account, block_said}
use Rattle.store_rules.specs.Tests.{open_for, gate_row}
use Rattle.freelist_rules.specs.Records.{region, chunk}
use Rattle.freelist_rules.specs.Tables.{Tables, tables, made_at, chunk_size_at, store_of, sound_ok, laid_chunks, gaps_in, whole_in, laid_gaps}
use Rattle.freelist_rules.specs.Walk.{memories}
use Rattle.freelist_outcomes.specs.Gate.{in_table_ok, account_ok}
use Rattle.freelist_outcomes.specs.Ask.{decide_ask, loan_from, taken_tables}
use Rattle.freelist_rules.specs.Threads.{gap, before_in}

-- 3 on a delivery: the kept ask still leads to the order that was told
abbrev pub still_ok : FreeListSettings → Account → Tables → OpenOrder → Bool
still_ok s a t None = false
still_ok s a t (Some k) =
    leads_to s.store k.order (decide_ask s (heap_at a s.store.heap) a.objects k.ask.size k.ask.mask t)

-- the gate of a delivery: an order is to be open for this store
unfoldable pub deliver_gate_of : FreeListSettings → Account → Tables → Verdict
deliver_gate_of s a t =
    first (gate_row (in_table_ok s a t) (open_for s.store.number a.order) (sound_ok s t && still_ok s a t a.order) (account_ok s a t))

-- a chunk of z bytes under the next number, wholly free
unfoldable pub delivered_tables : FreeListSettings → ℕ → ℕ → Tables → Tables
delivered_tables s memory z t =
    tables
    (set t.head chunk_size_at (doubled z s.last))
    t.loans
    (set (laid_chunks ((store_of s t).chunks ++ (chunk ((store_of s t).made + 1) memory z ∷ [])) t.chunks) made_at ((store_of s t).made + 1))
    t.index
    (laid_gaps (gaps_in t ++ (gap (region ((store_of s t).made + 1) 0 z) (before_in s.store.loans t.index 0) ∷ [])) (whole_in t + 1) t.room)

-- it is kept, and the kept ask is served from its region, the last; or it is lost
unfoldable pub carry_fate : FreeListSettings → Account → KeptOrder → Tables → Fate → Out Tables
carry_fate s a k t (kept memory) =
    out
    (block_said
    (loan_from s k.ask.size k.ask.mask (delivered_tables s memory k.order.size t) (length (store_of s t).regions)))
    (charged_account s.store a k.order.size)
    (taken_tables s k.ask.size k.ask.mask (delivered_tables s memory k.order.size t) (length (store_of s t).regions))
carry_fate s a k t (lost n charged back) = out (Paper.refusal n back) (lost_account s.store a k.order.size charged back) t

-- 13
abbrev pub decide_deliver : Outcome → List ℕ → OpenOrder → Arrival
decide_deliver = arrival_of free_list

unfoldable pub plan_deliver : FreeListSettings → Account → Outcome → Tables → Arrival
plan_deliver s a o t = gated deny (deliver_gate_of s a t) (decide_deliver o (memories (store_of s t).chunks) a.order)

unfoldable pub carry_deliver : FreeListSettings → Account → Tables → Arrival → Out Tables
carry_deliver s a t (deny n) = out (Paper.refusal n []) a t
carry_deliver s a t (go k f) = carry_fate s a k t f

unfoldable pub deliver_of : FreeListSettings → Account → Outcome → Tables → Out Tables
deliver_of s a o t = carry_deliver s a t (plan_deliver s a o t)
