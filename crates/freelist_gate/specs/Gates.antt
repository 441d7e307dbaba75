-- The later halves of the gates, by one heap and the object count, and what a delivery's passed gate tells.
use Rattle.std.specs.Prelude.{◌≡◌, ◌&&◌, Result, Ok, Err, List, [], ◌∷◌, ℕ, get_or}
use Rattle.words.specs.Rows.{rows}
use Rattle.counter.specs.Gate.{Verdict, pass, refuse, first}
use Rattle.counter.specs.Paper.{number_of}
use Rattle.counter.specs.declared.account.Heap.{Heap}
use Rattle.counter.specs.declared.account.KeptOrder.{KeptOrder}
use Rattle.counter.specs.declared.account.Order.{Order}
use Rattle.counter.specs.declared.refusal.Refusal.{Refusal}
use Rattle.counter.specs.declared.settings.FreeListSettings.{FreeListSettings}
use Rattle.store_rules.specs.Orders.{order_from, same_order, leads_to}
use Rattle.store_rules.specs.Tests.{covers_ok}
use Rattle.freelist_rules.specs.Records.{chunk_row}
use Rattle.freelist_rules.specs.Pieces.{total}
use Rattle.freelist_rules.specs.Tables.{Tables, chunks_at, chunks_in, store_of, sound_ok}
use Rattle.store_rules.specs.declared.Chunk.{Chunk}
use Rattle.freelist_outcomes.specs.Ask.{decide_ask}
use Rattle.freelist_decide.specs.Plans.{Planned}
use Rattle.freelist_decide.specs.declared.deciding.Buying.{Buying}
use Rattle.freelist_decide.specs.declared.deciding.Plan.TheVariants.{Buy}

-- 3 and 4 of an ask, a return and a clean-up

unfoldable pub store_gate : FreeListSettings → Heap → ℕ → Tables → Verdict
store_gate s h objects t =
    first
    ((sound_ok s t, 3)
    ∷ (covers_ok h objects (chunks_in t) (total (λ (c : Chunk). c.size) (store_of s t).chunks), 4)
    ∷ [])

-- 3 and 4 of a delivery, of the order that is kept
unfoldable pub kept_gate : FreeListSettings → Heap → ℕ → KeptOrder → Tables → Verdict
kept_gate s h objects k t =
    first
    ((sound_ok s t && leads_to s.store k.order (decide_ask s h objects k.ask.size k.ask.mask t), 3)
    ∷ (covers_ok h objects (chunks_in t) (total (λ (c : Chunk). c.size) (store_of s t).chunks), 4)
    ∷ [])

-- the same where the kept ask comes to an order of z bytes
unfoldable pub bought_gate : FreeListSettings → Heap → ℕ → Order → ℕ → List ℕ → Verdict
bought_gate s h objects order z chunks =
    first
    ((same_order order (order_from s.store z), 3)
    ∷ (covers_ok h objects (get_or chunks chunks_at 0) (total (λ (c : Chunk). c.size) (rows chunk_row (get_or chunks chunks_at 0) chunks)), 4)
    ∷ [])

-- ---- the code's words for a delivery's gate

abbrev pub pass_of : Result Buying Refusal → Verdict
pass_of (Err r) = refuse (number_of r)
pass_of (Ok b) = pass

-- what is passed on is b, of the order's size
abbrev pub BoughtAs : Order → Buying → Result Buying Refusal → Type 0
BoughtAs order b (Err r) = Unit {0}
BoughtAs order b (Ok x) = (x ≡ b) × (b.order ≡ order.size)

-- 3, "the kept ask still leads to the order that was told": what it leads to, with the numbers that an ask's plan carries
abbrev pub BoughtFor : FreeListSettings → KeptOrder → Tables → Result Buying Refusal → Type 0
BoughtFor s k t (Err r) = Unit {0}
BoughtFor s k t (Ok b) = (b.order ≡ k.order.size) × Planned s k.ask.size k.ask.mask t (Ok (Buy b))
