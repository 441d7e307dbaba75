-- An account that has a store's share, and nothing else: what a call does to a share is what it does to this account.
use mathlib.Core.Bool.{Bool, false, cond}
use mathlib.Core.List.{List}
use Prim.Native.Nat.{◌+◌}
use lib.ListN.{replicate}
use Rattle.counter.specs.Account.{no_heap, no_total}
use Rattle.counter.specs.Limits.{heaps_most, heap_bytes_most}
use Rattle.counter.specs.declared.account.Account.{Account}
use Rattle.counter.specs.declared.account.Heap.{Heap}
use Rattle.counter.specs.declared.account.KeptOrder.{KeptOrder}
use Rattle.counter.specs.Open.{OpenOrder}
use Rattle.std.specs.Prelude.{None, Some}
use Rattle.counter.specs.declared.settings.StoreSettings.{StoreSettings}
use Rattle.store_rules.specs.Shares.{with_share}
use Rattle.store_rules.specs.declared.Share.{Share}

-- a heap that the table does not allow
abbrev pub over_heap : Heap
over_heap = record { size = heap_bytes_most + 1; used = 0; allocated = no_total; deallocated = no_total }

-- the other heaps: empty, or such as the table does not allow
abbrev pub others : Bool → List Heap
others bounded = cond bounded (replicate heaps_most no_heap) (replicate heaps_most over_heap)

-- with this order, or none
unfoldable pub holding : StoreSettings → Share → OpenOrder → Account
holding s share o = with_share s (record { heaps = others share.bounded; objects = 0; order = None }) share o

-- an order of which nothing is told but that it is open
abbrev pub some_order : KeptOrder
some_order = record { ask = record { size = 0; mask = 0 }; order = record { store = 0; size = 0; memtype = 0; map = false } }

abbrev pub order_by : Bool → OpenOrder
order_by idle = cond idle None (Some some_order)

-- with an order where one is open
abbrev pub holder : StoreSettings → Share → Account
holder s share = holding s share (order_by share.idle)
