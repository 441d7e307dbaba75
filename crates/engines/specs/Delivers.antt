-- An order that an ask gave can be delivered: what it keeps, and that the delivery's tests 1 to 4 pass on what it left.
use Rattle.std.specs.Prelude.{◌≡◌, ℕ}
use Rattle.counter.specs.Gate.{pass}
use Rattle.counter.specs.Paper as Paper
use Rattle.counter.specs.declared.account.Account.{Account}
use Rattle.std.specs.Prelude.{Some}
use Rattle.store_rules.specs.Orders.{order_from, kept_from}
use Rattle.store_rules.specs.Outcomes.{with_order}
use Rattle.engines.specs.Shapes.{Tables, Shape}
use Rattle.engines.specs.Tells.{Ordered}

pub record Delivers (E : Shape) : Type 0 where
  -- the order is for the size that this engine orders, and it is kept in the account with its ask, and nothing else there changes
  pub ordered : (s : E.Settings) (a : Account) (size mask : ℕ) (t : Tables) → Ordered (E.ask s a size mask t).said
      → ((E.ask s a size mask t).said ≡ Paper.order_of (order_from (E.store s) (E.order_size s size mask t)))
      × ((E.ask s a size mask t).account ≡ with_order a (Some (kept_from (E.store s) size mask (E.order_size s size mask t))))
  -- and it can be delivered
  pub deliverable : (s : E.Settings) (a : Account) (size mask : ℕ) (t : Tables) → E.gate s a t ≡ pass → Ordered (E.ask s a size mask t).said
      → E.deliver_gate s (E.ask s a size mask t).account (E.ask s a size mask t).tables ≡ pass
