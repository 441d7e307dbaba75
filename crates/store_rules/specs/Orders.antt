-- The order that an ask opens, and what a delivery tests again. 01, "What one store holds": an order is "chunk size, memory
-- type, whether to map (when the type is HOST_VISIBLE)".
use Rattle.std.specs.Prelude.{Bool, true, false, ◌&&◌, not, ℕ, eqb}
use Rattle.counter.specs.Properties.{host_visible}
use Rattle.counter.specs.declared.account.KeptOrder.{KeptOrder}
use Rattle.counter.specs.declared.account.Order.{Order}
use Rattle.counter.specs.declared.settings.StoreSettings.{StoreSettings}

-- the order for a chunk of z bytes
abbrev pub order_from : StoreSettings → ℕ → Order
order_from s z = record { store = s.number; size = z; memtype = s.memtype; map = host_visible s.properties }

-- it is kept with the ask that it serves
abbrev pub kept_from : StoreSettings → ℕ → ℕ → ℕ → KeptOrder
kept_from s size mask z = record { ask = record { size = size; mask = mask }; order = order_from s z }

-- what an ask comes to: a refusal, a place to take of an engine's own kind, or an order for so many bytes
pub data Plan (P : Type 0) : Type 0 where
  deny : ℕ → Plan P
  take : P → Plan P
  buy : ℕ → Plan P

abbrev pub same_bool : Bool → Bool → Bool
same_bool true b = b
same_bool false b = not b

abbrev pub same_order : Order → Order → Bool
same_order o p = eqb o.store p.store && (eqb o.size p.size && (eqb o.memtype p.memtype && same_bool o.map p.map))

-- 3, on a delivery: "tests 5 to 10 on the kept ask" still "lead to that order"
abbrev pub leads_to : {P : Type 0} → StoreSettings → Order → Plan P → Bool
leads_to s o (deny n) = false
leads_to s o (take p) = false
leads_to s o (buy z) = same_order o (order_from s z)
