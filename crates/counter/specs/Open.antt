-- 01, "What one store holds": the account has at most one open order.
use Rattle.std.specs.Prelude.{Option}
use Rattle.counter.specs.declared.account.KeptOrder.{KeptOrder}

abbrev pub OpenOrder : Type 0
OpenOrder = Option KeptOrder
