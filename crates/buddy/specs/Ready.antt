-- What the code that carries a plan out asks of the tables, by cases on the plan; a passed gate and the plan give it.
use Rattle.std.specs.Prelude.{◌≡◌, true, Result, Ok, Err, [], ℕ, ◌+◌, ◌≤◌}
use Rattle.counter.specs.InTable.{BuddyIn}
use Rattle.counter.specs.Limits.{objects_most}
use Rattle.counter.specs.declared.account.KeptOrder.{KeptOrder}
use Rattle.counter.specs.declared.answers.Block.{Block}
use Rattle.counter.specs.Gate.{Gate}
use Rattle.counter.specs.declared.refusal.Refusal.{Refusal}
use Rattle.counter.specs.declared.settings.BuddySettings.{BuddySettings}
use Rattle.store_rules.specs.declared.Share.{Share}
use Rattle.store.specs.declared.comings.Coming.{Coming}
use Rattle.buddy_rules.specs.Level.{ring_head}
use Rattle.buddy_rules.specs.Tables.{Tables, tables, Lengths, level_from}
use Rattle.buddy_outcomes.specs.Ask.{level_for, grown_to, grown_tables}
use Rattle.buddy_outcomes.specs.Return.{climb_for}
use Rattle.buddy_decide.specs.Plans.{next_loan}
use Rattle.buddy_decide.specs.declared.plans.Buying.{Buying}
use Rattle.buddy_decide.specs.declared.plans.Plan.{Plan}
use Rattle.buddy_decide.specs.declared.plans.Plan.TheVariants.{Lack, Take, Buy}
use Rattle.buddy_gate.specs.Gates.{KeptBuys}
use Rattle.buddy_moves.specs.Ready.{Lends, Serves, Backs}
use Rattle.buddy_grow.specs.Grows.{Grows}

-- ---- set-up

abbrev pub SetUpReady : BuddySettings → Tables → Gate → Type 0
SetUpReady s t (Err r) = Unit {0}
SetUpReady s t (Ok _) = BuddyIn s × Lengths s t

-- ---- an ask

abbrev pub AskReady : BuddySettings → Tables → Result Plan Refusal → Type 0
AskReady s t (Err r) = Unit {0}
AskReady s t (Ok (Lack n)) = Grows s n t.head
AskReady s t (Ok (Take k)) =
    Lends s k.size k.level k.from (tables [] t.loans [] t.index t.room)
    × (k.pair ≡ ring_head (level_from s k.from) t.room)
    × (k.loan ≡ next_loan t)
AskReady s t (Ok (Buy b)) = Grows s b.levels t.head

-- ---- a delivery

-- its buying is what the kept ask needs
abbrev pub ComingBuys : BuddySettings → Tables → Buying → Coming → Type 0
ComingBuys s t b (Coming.Keep c) = KeptBuys s c.kept t b
ComingBuys s t b (Coming.Lose c) = KeptBuys s c.kept t b

abbrev pub Delivers : BuddySettings → Tables → Result (Coming × Buying) Refusal → Type 0
Delivers s t (Err r) = Unit {0}
Delivers s t (Ok p) = ComingBuys s t p.1 p.0

-- the store as the order grew it can take the chunk and serve from it
abbrev pub KeepReady : BuddySettings → KeptOrder → ℕ → Tables → Buying → Type 0
KeepReady s k memory t b =
    KeptBuys s k t b × Grows s b.levels t.head × Serves s b.level memory k.order.size (grown_tables s b.levels t)

abbrev pub LoseReady : BuddySettings → KeptOrder → Tables → ℕ → Type 0
LoseReady s k t levels = (levels ≡ grown_to (level_for s k.ask.size k.ask.mask) t) × Grows s levels t.head

abbrev pub ComingReady : BuddySettings → Tables → Buying → Coming → Type 0
ComingReady s t b (Coming.Keep c) = KeepReady s c.kept c.memory t b
ComingReady s t b (Coming.Lose c) = LoseReady s c.kept t b.levels

abbrev pub DeliverReady : BuddySettings → Tables → Result (Coming × Buying) Refusal → Type 0
DeliverReady s t (Err r) = Unit {0}
DeliverReady s t (Ok p) = ComingReady s t p.1 p.0

-- ---- a return

-- where the chunk goes with the block, the share has room for its object
abbrev pub ReturnReady : BuddySettings → Share → Block → Tables → Result ℕ Refusal → Type 0
ReturnReady s share b t (Err r) = Unit {0}
ReturnReady s share b t (Ok w) = Backs s b w t × ((climb_for s b w t).freed ≡ true → share.objects + 1 ≤ objects_most)
