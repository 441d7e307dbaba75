-- What a delivery comes to in a store of either engine, once its gate is passed. 01, "When the counter says no": 13, and the
-- paragraph after the table.
use Rattle.std.specs.Prelude.{cond, List, ℕ}
use Rattle.counter.specs.declared.account.KeptOrder.{KeptOrder}
use Rattle.counter.specs.Open.{OpenOrder}
use Rattle.std.specs.Prelude.{None, Some}
use Rattle.counter.specs.declared.answers.Outcome.{Outcome}
use Rattle.store_rules.specs.Delivery.{Fate, Engine, fate_of, delivery_ok}

-- a refusal, or for the order that was kept what the outcome leads to
pub data Arrival : Type 0 where
  deny : ℕ → Arrival
  go : KeptOrder → Fate → Arrival

-- 13
abbrev pub arrival_of : Engine → Outcome → List ℕ → OpenOrder → Arrival
arrival_of e o held None = deny 2
arrival_of e o held (Some k) = cond (delivery_ok k.order.map held o) (go k (fate_of e o)) (deny 13)
