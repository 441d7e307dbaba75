-- A store's share of the account, and what a call may do to it. 01, "What one store holds": several stores share one account. A call
-- reads and writes the heap of its own settings, the objects and the order, and of the other heaps only tests that they are in the
-- table.
use Rattle.std.specs.Prelude.{Bool, true, false, List, [], ◌∷◌, ℕ, ◌+◌, ◌-◌}
use Rattle.counter.specs.Account.{heap_at, settled_of}
use Rattle.counter.specs.Paper.{Said}
use Rattle.counter.specs.Paper as Paper
use Rattle.counter.specs.Table.{heaps_ok}
use Rattle.counter.specs.declared.account.Account.{Account}
use Rattle.counter.specs.Open.{OpenOrder}
use Rattle.std.specs.Prelude.{None, Some}
use Rattle.counter.specs.declared.settings.StoreSettings.{StoreSettings}
use Rattle.heap.specs.Heap.{charged_of, released_of}
use Rattle.store_rules.specs.Tests.{no_order}
use Rattle.store_rules.specs.declared.Share.{Share}

-- the share of a store with these settings
abbrev pub share_of : StoreSettings → Account → Share
share_of s a = record { bounded = heaps_ok a.heaps; idle = no_order a.order; heap = heap_at a s.heap; objects = a.objects }

-- the account with this share and this order in it, and the rest as it was
abbrev pub with_share : StoreSettings → Account → Share → OpenOrder → Account
with_share s a share o = settled_of a s.heap share.heap share.objects o

-- ---- what may be done to a share

-- the order is closed, and nothing else has changed
abbrev pub closed_share : Share → Share
closed_share share = record { bounded = share.bounded; idle = true; heap = share.heap; objects = share.objects }

-- a chunk of z bytes was allocated
abbrev pub charged_share : Share → ℕ → Share
charged_share share z = record { bounded = share.bounded; idle = true; heap = charged_of share.heap z; objects = share.objects - 1 }

-- it was, and is given back: "restores both counts"
abbrev pub back_share : Share → ℕ → Share
back_share share z = record { bounded = share.bounded; idle = true; heap = released_of (charged_of share.heap z) z; objects = share.objects }

-- the order is closed with 11 or 12: the heap charged or not, the memory given back or not
abbrev pub lost_share : Share → ℕ → Bool → List ℕ → Share
lost_share share z false back = closed_share share
lost_share share z true [] = charged_share share z
lost_share share z true (m ∷ back) = back_share share z

-- n chunks of so many bytes in all are released
abbrev pub released_share : Share → ℕ → ℕ → Share
released_share share n bytes = record { bounded = share.bounded; idle = share.idle; heap = released_of share.heap bytes; objects = share.objects + n }

-- ---- and so to the account

-- another order open, or none, and nothing else changed
abbrev pub with_order : Account → OpenOrder → Account
with_order a o = record { heaps = a.heaps; objects = a.objects; order = o }

unfoldable pub charged_account : StoreSettings → Account → ℕ → Account
charged_account s a z = with_share s a (charged_share (share_of s a) z) None

unfoldable pub back_account : StoreSettings → Account → ℕ → Account
back_account s a z = with_share s a (back_share (share_of s a) z) None

unfoldable pub lost_account : StoreSettings → Account → ℕ → Bool → List ℕ → Account
lost_account s a z charged back = with_share s a (lost_share (share_of s a) z charged back) None

unfoldable pub released_account : StoreSettings → Account → ℕ → ℕ → Account
released_account s a n bytes = with_share s a (released_share (share_of s a) n bytes) a.order

-- of an ask, by what it said: an order is kept with the size and mask that were asked, and nothing else changes
abbrev pub ask_left : Account → ℕ → ℕ → Said → Account
ask_left a size mask Paper.ready = a
ask_left a size mask (Paper.block serial chunk offset z) = a
ask_left a size mask (Paper.order store z memtype map) =
    with_order a
    (Some (record { ask = record { size = size; mask = mask }; order = record { store = store; size = z; memtype = memtype; map = map } }))
ask_left a size mask (Paper.released n) = a
ask_left a size mask Paper.ranked = a
ask_left a size mask (Paper.refusal n back) = a
