-- Demand 3 of an engine: set-up gives a sound store, every call leaves it sound, and what is sound is filled; what a new block
-- is; and demand 2: when a chunk is ordered.
use Rattle.std.specs.Prelude.{◌≡◌, true, ◌↔◌, ℕ}
use mathlib.Core.List.{List, Memᴰ}
use Rattle.counter.specs.Account.{Typed}
use Rattle.counter.specs.Gate.{pass}
use Rattle.counter.specs.Paper as Paper
use Rattle.counter.specs.declared.account.Account.{Account}
use Rattle.counter.specs.declared.account.KeptOrder.{KeptOrder}
use Rattle.std.specs.Prelude.{Some}
use Rattle.counter.specs.declared.answers.Block.{Block}
use Rattle.counter.specs.declared.answers.Outcome.{Outcome}
use Rattle.store_rules.specs.Orders.{order_from}
use Rattle.store_rules.specs.Outcomes.{charged_account}
use Rattle.store_rules.specs.Tests.{no_order}
use Rattle.store_rules.specs.Views.{Filled, Apart, GoodBlock}
use Rattle.store_rules.specs.declared.Loan.{Loan}
use Rattle.store_rules.specs.declared.Region.{Region}
use Rattle.engines.specs.Shapes.{Tables, Call, Shape, does}

pub record Keeps (E : Shape) : Type 0 where
  pub set_up_sound : (s : E.Settings) (t : Tables) → (E.set_up s t).said ≡ Paper.ready → E.Sound s (E.set_up s t).tables
  pub ask_sound : (s : E.Settings) (a : Account) (size mask : ℕ) (t : Tables) → E.Sound s t → E.Sound s (E.ask s a size mask t).tables
  pub deliver_sound : (s : E.Settings) (a : Account) (o : Outcome) (t : Tables) → E.Sound s t → E.Sound s (E.deliver s a o t).tables
  pub return_sound : (s : E.Settings) (a : Account) (b : Block) (t : Tables) (list : List ℕ) → E.Sound s t → E.Sound s (E.return s a b t list).tables
  pub other_sound : (s : E.Settings) (a : Account) (c : E.Own) (t : Tables) (list : List ℕ) → E.Sound s t → E.Sound s (E.other s a c t list).tables
  -- 01, test 1: what set-up leaves is in the table and of the right lengths, and every call leaves it so, whatever order is open
  pub set_up_fits : (s : E.Settings) (t : Tables) → (E.set_up s t).said ≡ Paper.ready → E.Fits s (E.set_up s t).tables
  pub fits_stays : (s : E.Settings) (a : Account) (t : Tables) (c : Call E.Own) → E.Fits s t → E.Sound s t → E.Fits s (does E s a t c).tables
  -- tests 1 to 4 pass again, in an account that code can lend
  pub ask_again : (s : E.Settings) (a : Account) (t : Tables) → Typed a → E.gate s a t ≡ pass → (size mask : ℕ)
      → no_order (E.ask s a size mask t).account.order ≡ true → E.gate s (E.ask s a size mask t).account (E.ask s a size mask t).tables ≡ pass
  pub deliver_again : (s : E.Settings) (a : Account) (o : Outcome) (t : Tables) → Typed a → E.deliver_gate s a t ≡ pass
      → no_order (E.deliver s a o t).account.order ≡ true → E.gate s (E.deliver s a o t).account (E.deliver s a o t).tables ≡ pass
  pub return_again : (s : E.Settings) (a : Account) (t : Tables) → Typed a → E.gate s a t ≡ pass → (b : Block) (list : List ℕ)
      → E.gate s (E.return s a b t list).account (E.return s a b t list).tables ≡ pass
  pub other_again : (s : E.Settings) (a : Account) (t : Tables) → Typed a → E.gate s a t ≡ pass → (c : E.Own) (list : List ℕ)
      → E.gate s (E.other s a c t list).account (E.other s a c t list).tables ≡ pass
  -- the tests passed: settings and tables are in 01's table, and the store is sound
  pub passed_fits : (s : E.Settings) (a : Account) (t : Tables) → E.gate s a t ≡ pass → E.Fits s t
  pub passed_sound : (s : E.Settings) (a : Account) (t : Tables) → E.gate s a t ≡ pass → E.Sound s t
  -- of a sound store, an order open or not. Demand 3: "blocks on loan and free pieces fill each held chunk without gap or overlap"
  pub filled : (s : E.Settings) (t : Tables) → E.Fits s t → E.Sound s t → Filled (E.view s t)
  -- 01, "Sound": "loans have distinct serials", "held memory numbers differ"; and no chunk number stands for two
  pub apart : (s : E.Settings) (t : Tables) → E.Fits s t → E.Sound s t → Apart (E.view s t)
  -- 01, "Sound": "no joinable pieces"
  pub unjoined : (s : E.Settings) (t : Tables) → E.Fits s t → E.Sound s t → (p q : Region) → Memᴰ p (E.view s t).free → Memᴰ q (E.view s t).free → E.Joinable s p q → ⊥
  -- what a user sees on loan are the loans
  pub loans_seen : (s : E.Settings) (t : Tables) (l : Loan) → Memᴰ l (E.view s t).loans ↔ Memᴰ l (E.loans t)

pub record Lends (E : Shape) : Type 0 where
  -- a block that answers an ask, and one that answers a delivery, for the ask that was kept
  pub ask_block : (s : E.Settings) (a : Account) (size mask : ℕ) (t : Tables) (serial chunk offset len : ℕ) → (E.ask s a size mask t).said ≡ Paper.block serial chunk offset len
      → GoodBlock (E.store s).atom size mask (E.given t) (E.loans t) (E.view s (E.ask s a size mask t).tables).chunks serial chunk offset len × ((E.ask s a size mask t).account ≡ a)
  pub deliver_block : (s : E.Settings) (a : Account) (o : Outcome) (t : Tables) (serial chunk offset len : ℕ) → (E.deliver s a o t).said ≡ Paper.block serial chunk offset len
      → (k : KeptOrder) × (a.order ≡ Some k)
      × GoodBlock (E.store s).atom k.ask.size k.ask.mask (E.given t) (E.loans t) (E.view s (E.deliver s a o t).tables).chunks serial chunk offset len
      × ((E.deliver s a o t).account ≡ charged_account (E.store s) a k.order.size)
  -- on an ask that is not refused an order is given exactly when no held chunk has a fitting free place
  pub orders_when : (s : E.Settings) (a : Account) (size mask : ℕ) (t : Tables) → ((n : ℕ) (back : List ℕ) → (E.ask s a size mask t).said ≡ Paper.refusal n back → ⊥)
      → ((z : ℕ) × ((E.ask s a size mask t).said ≡ Paper.order_of (order_from (E.store s) z))) ↔ E.Needed s size mask t
