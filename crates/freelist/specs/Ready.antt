-- What the code that carries a plan out asks of it and of the tables: a passed gate and the plan give it.
use Rattle.std.specs.Prelude.{◌≡◌, Result, Ok, Err, Bool, true, false, List, ℕ, ◌+◌, ◌≤◌, length}
use Rattle.rounding_rules.specs.Masks.{Ones}
use Rattle.counter.specs.InTable.{FreeListIn}
use Rattle.counter.specs.Limits.{objects_most}
use Rattle.counter.specs.declared.account.KeptOrder.{KeptOrder}
use Rattle.counter.specs.declared.answers.Block.{Block}
use Rattle.counter.specs.Gate.{Gate}
use Rattle.counter.specs.declared.refusal.Refusal.{Refusal}
use Rattle.counter.specs.declared.settings.FreeListSettings.{FreeListSettings}
use Rattle.book_rules.specs.Ready.{Strikes}
use Rattle.freelist_rules.specs.Records.{region}
use Rattle.freelist_rules.specs.Place.{cut}
use Rattle.freelist_rules.specs.Tables.{Tables, Lengths, store_of}
use Rattle.freelist_outcomes.specs.Deliver.{delivered_tables}
use Rattle.freelist_outcomes.specs.Return.{given_tables, gone_from}
use Rattle.freelist_decide.specs.Plans.{Planned}
use Rattle.freelist_decide.specs.declared.deciding.Buying.{Buying}
use Rattle.freelist_decide.specs.declared.deciding.Plan.{Plan}
use Rattle.freelist_decide.specs.declared.deciding.Plan.TheVariants.{Take, Buy}
use Rattle.freelist_place.specs.Ready.{Lends, Adds, Backs}
use Rattle.freelist_release.specs.Frees.{Frees}
use Rattle.store.specs.declared.comings.Coming.{Coming}
use Rattle.freelist.specs.declared.plans.Delivery.{Delivery}
use Rattle.book_rules.specs.Book.{led_to}

-- ---- set-up

abbrev pub SetUpReady : FreeListSettings → Tables → Gate → Type 0
SetUpReady s t (Err r) = Unit {0}
SetUpReady s t (Ok _) = FreeListIn s × Lengths s t

-- ---- an ask: the region of the plan can be lent from

abbrev pub AskReady : FreeListSettings → Tables → Result Plan Refusal → Type 0
AskReady s t (Err r) = Unit {0}
AskReady s t (Ok (Take k)) = Lends s k.region k.start k.loan.place t.loans t.chunks t.index t.room
AskReady s t (Ok (Buy b)) = Unit {0}

-- ---- a delivery

-- its buying is what the kept ask came to: the order is the one that was told, and the numbers are those of that ask
abbrev pub ComingBuys : FreeListSettings → Tables → Buying → Coming → Type 0
ComingBuys s t b (Coming.Keep c) = (b.order ≡ c.kept.order.size) × Planned s c.kept.ask.size c.kept.ask.mask t (Ok (Buy b))
ComingBuys s t b (Coming.Lose l) = Unit {0}

abbrev pub Delivers : FreeListSettings → Tables → Result Delivery Refusal → Type 0
Delivers s t (Err r) = Unit {0}
Delivers s t (Ok d) = ComingBuys s t d.bought d.coming

-- the chunk of the order k can be added, and its region, the last, lent from
pub record KeepReady (s : FreeListSettings) (k : KeptOrder) (memory : ℕ) (t : Tables) (b : Buying) : Type 0 where
  pub planned : Planned s k.ask.size k.ask.mask t (Ok (Buy b))
  pub aligned : Ones 63 b.mask
  pub small : b.size ≤ k.order.size
  pub adds : Adds s t.chunks t.room
  pub lends : Lends s (length (store_of s t).regions) (cut b.mask b.size (region 0 0 k.order.size)) b.loan.place t.loans (delivered_tables s memory k.order.size t).chunks t.index (delivered_tables s memory k.order.size t).room

abbrev pub ComingReady : FreeListSettings → Tables → Buying → Coming → Type 0
ComingReady s t b (Coming.Keep c) = KeepReady s c.kept c.memory t b
ComingReady s t b (Coming.Lose l) = Unit {0}

abbrev pub DeliverReady : FreeListSettings → Tables → Result Delivery Refusal → Type 0
DeliverReady s t (Err r) = Unit {0}
DeliverReady s t (Ok d) = ComingReady s t d.bought d.coming

-- ---- a return and a clean-up

-- the chunks that go can be released, and the device objects allowed again stay within their limit
abbrev pub Releases : FreeListSettings → ℕ → Bool → Tables → List ℕ → Type 0
Releases s objects spare t list = Frees s t.chunks t.room list × (objects + length (gone_from s spare t) ≤ objects_most)

-- the loan that word w leads to can be struck out, its block go back, and then wholly free chunks go
pub record TakesBack (s : FreeListSettings) (objects : ℕ) (b : Block) (w : ℕ) (t : Tables) (list : List ℕ) : Type 0 where
  pub backs : Backs s b w t.chunks t.index t.room
  pub strikes : Strikes w (led_to t.index w) t.loans t.index
  pub releases : Releases s objects true (given_tables s b w t) list

abbrev pub ReturnReady : FreeListSettings → ℕ → Block → Tables → List ℕ → Result ℕ Refusal → Type 0
ReturnReady s objects b t list (Err r) = Unit {0}
ReturnReady s objects b t list (Ok w) = TakesBack s objects b w t list

abbrev pub CleanUpReady : FreeListSettings → ℕ → Tables → List ℕ → Gate → Type 0
CleanUpReady s objects t list (Err r) = Unit {0}
CleanUpReady s objects t list (Ok _) = Releases s objects false t list
