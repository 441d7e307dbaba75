-- The later half of the gate, by one heap and the object count; and what the gate of a delivery passes on.
use Rattle.std.specs.Prelude.{◌≡◌, ◌&&◌, Option, Some, None, Result, Ok, Err, [], ◌∷◌, ℕ}
use Rattle.counter.specs.Gate.{Verdict, pass, refuse, first}
use Rattle.counter.specs.Paper.{number_of}
use Rattle.counter.specs.declared.account.Heap.{Heap}
use Rattle.counter.specs.declared.account.KeptOrder.{KeptOrder}
use Rattle.counter.specs.Open.{OpenOrder}
use Rattle.std.specs.Prelude.{Some}
use Rattle.counter.specs.declared.refusal.Refusal.{Refusal}
use Rattle.counter.specs.declared.settings.BuddySettings.{BuddySettings}
use Rattle.store_rules.specs.Orders.{leads_to}
use Rattle.store_rules.specs.Tests.{covers_ok}
use Rattle.buddy_rules.specs.Tables.{Tables, chunk_places_in}
use Rattle.buddy_rules.specs.Test.{sound_ok}
use Rattle.buddy_outcomes.specs.Ask.{size_for, level_for, decide_ask}
use Rattle.buddy_outcomes.specs.Gate.{held_count, held_bytes}
use Rattle.buddy_decide.specs.Plans.{Buys}
use Rattle.buddy_decide.specs.declared.plans.Buying.{Buying}

unfoldable pub store_gate : BuddySettings → Heap → ℕ → Tables → Verdict
store_gate s h objects t =
    first
    ((sound_ok s t, 3)
    ∷ (covers_ok h objects (held_count t (chunk_places_in t)) (held_bytes t (chunk_places_in t)), 4)
    ∷ [])

-- of a delivery: the kept ask still leads to its order
unfoldable pub kept_gate : BuddySettings → Heap → ℕ → KeptOrder → Tables → Verdict
kept_gate s h objects k t =
    first
    ((sound_ok s t && leads_to s.store k.order (decide_ask s h objects k.ask.size k.ask.mask t), 3)
    ∷ (covers_ok h objects (held_count t (chunk_places_in t)) (held_bytes t (chunk_places_in t)), 4)
    ∷ [])

-- ---- the code's words, and that they carry what the kept ask needs

abbrev pub KeptBuys : BuddySettings → KeptOrder → Tables → Buying → Type 0
KeptBuys s k t b = Buys s (size_for s k.ask.size k.ask.mask) (level_for s k.ask.size k.ask.mask) t b

abbrev pub StillBuys : BuddySettings → KeptOrder → Tables → Option Buying → Type 0
StillBuys s k t None = Unit {0}
StillBuys s k t (Some b) = KeptBuys s k t b

abbrev pub passing_of : Result Buying Refusal → Verdict
passing_of (Err r) = refuse (number_of r)
passing_of (Ok b) = pass

abbrev pub PassingBuys : BuddySettings → KeptOrder → Tables → Result Buying Refusal → Type 0
PassingBuys s k t (Err r) = Unit {0}
PassingBuys s k t (Ok b) = KeptBuys s k t b

-- of the order that is open
abbrev pub OpenBuys : BuddySettings → OpenOrder → Tables → Result Buying Refusal → Type 0
OpenBuys s order t p = (k : KeptOrder) → order ≡ Some k → PassingBuys s k t p
