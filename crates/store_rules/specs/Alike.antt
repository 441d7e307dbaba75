-- Two accounts in which a store's share is the same, and what a call leaves of one told of the other. 01, "What one store holds":
-- several stores share one account.
use Rattle.std.specs.Prelude.{◌≡◌, ℕ, length}
use Rattle.counter.specs.Account.{heap_at, settled_of}
use Rattle.counter.specs.Limits.{heaps_most}
use Rattle.counter.specs.Table.{heaps_ok}
use Rattle.counter.specs.declared.account.Account.{Account}
use Rattle.counter.specs.Open.{OpenOrder}
use Rattle.counter.specs.declared.settings.StoreSettings.{StoreSettings}
use Rattle.store_rules.specs.Outcomes.{Out, out, Listed, listed}
use Rattle.store_rules.specs.Shares.{ask_left}
use Rattle.store_rules.specs.Tests.{no_order}

pub record Alike (s : StoreSettings) (a b : Account) : Type 0 where
  pub table : heaps_ok a.heaps ≡ heaps_ok b.heaps
  pub free : no_order a.order ≡ no_order b.order
  pub heap : heap_at a s.heap ≡ heap_at b s.heap
  pub objects : a.objects ≡ b.objects
  pub sixteen : length b.heaps ≡ heaps_most

-- what a call left of b, told of a: its heap, its objects, and this order
abbrev pub taken_over : StoreSettings → Account → Account → OpenOrder → Account
taken_over s a b o = settled_of a s.heap (heap_at b s.heap) b.objects o

-- a delivery
abbrev pub over_out : {T : Type 0} → StoreSettings → Account → Out T → Out T
over_out s a r = out r.said (taken_over s a r.account r.account.order) r.tables

-- a return or a clean-up, which leave the order
abbrev pub over_listed : {T : Type 0} → StoreSettings → Account → Listed T → Listed T
over_listed s a r = listed r.said (taken_over s a r.account a.order) r.tables r.list

-- an ask
abbrev pub over_ask : {T : Type 0} → ℕ → ℕ → Account → Out T → Out T
over_ask size mask a r = out r.said (ask_left a size mask r.said) r.tables
