-- 01's rows that both engines share, in the paper's words and not as tests: proofs/Refused shows that the tests decide
-- exactly these.
use Rattle.std.specs.Prelude.{◌≡◌, Bool, true, false, cond, ◌⊎◌, ℕ, ◌+◌, ◌-◌, ◌^◌, ◌≤◌, ◌<◌, get_or}
use mathlib.Core.List.{List, Memᴰ}
use Rattle.counter.specs.Account.{value, no_heap}
use Rattle.counter.specs.Limits.{align_bits, heaps_most, heap_bytes_most, objects_most}
use Rattle.counter.specs.declared.account.Account.{Account}
use Rattle.counter.specs.declared.account.Heap.{Heap}
use Rattle.counter.specs.declared.account.KeptOrder.{KeptOrder}
use Rattle.std.specs.Prelude.{None, Some}
use Rattle.counter.specs.declared.answers.Mapping.{Mapping}
use Rattle.counter.specs.declared.answers.Mapping.TheVariants as M
use Rattle.counter.specs.declared.answers.Memory.{Memory}
use Rattle.counter.specs.declared.answers.Outcome.{Outcome}
use Rattle.counter.specs.declared.answers.Outcome.TheVariants as O
use Rattle.counter.specs.declared.settings.StoreSettings.{StoreSettings}
use Rattle.store_rules.specs.Delivery.{Engine, gives_back}
use Rattle.store_rules.specs.Outcomes.{with_order, charged_account, back_account}

-- 1: every heap's size and used are in the table
abbrev pub HeapsIn : Account → Type 0
HeapsIn a = (i : ℕ) → i < heaps_most → ((get_or a.heaps i no_heap).size ≤ heap_bytes_most) × ((get_or a.heaps i no_heap).used ≤ heap_bytes_most)

-- 2: "an order is open, on an ask, return or clean-up"
abbrev pub OrderOpen : Account → Type 0
OrderOpen a = (k : KeptOrder) × (a.order ≡ Some k)

-- 2: "or a delivery when none is open for this store"
abbrev pub NoneFor : ℕ → Account → Type 0
NoneFor store a = (k : KeptOrder) → a.order ≡ Some k → k.order.store ≡ store → ⊥

-- 4: "heap used is below the sum of this store's chunks, or differs from allocated less deallocated, or objects + this
-- store's chunks exceed 2^32 - 1"
abbrev pub Uncovered : Heap → ℕ → ℕ → ℕ → Type 0
Uncovered h objects chunks bytes =
    (h.used < bytes)
    ⊎ ((value h.deallocated + h.used ≡ value h.allocated → ⊥)
    ⊎ (objects_most < objects + chunks))

-- 5: "the alignment mask isn't of the allowed form": 2^k - 1, k 0 to 40
abbrev pub MaskOff : ℕ → Type 0
MaskOff mask = (k : ℕ) → k ≤ align_bits → mask ≡ 2 ^ k - 1 → ⊥

-- 13: "the memory number is already held by this store, or the map outcome doesn't suit the order"
abbrev pub Unsuited : Bool → Mapping → Type 0
Unsuited map m = ((map ≡ true) × (m ≡ M.NotWanted)) ⊎ ((map ≡ false) × (m ≡ M.NotWanted → ⊥))

abbrev pub Unwelcome : Bool → List ℕ → Outcome → Type 0
Unwelcome map held o = (m : Memory) × (o ≡ O.Made m) × (Memᴰ m.number held ⊎ Unsuited map m.mapping)

-- of the open order
abbrev pub UnwelcomeTo : Account → List ℕ → Outcome → Type 0
UnwelcomeTo a held o = (k : KeptOrder) × (a.order ≡ Some k) × Unwelcome k.order.map held o

-- 11: "delivered: out of device memory, by allocation or map"
abbrev pub DeviceOut : Outcome → Type 0
DeviceOut o = (o ≡ O.OutOfDevice) ⊎ ((m : Memory) × (o ≡ O.Made m) × (m.mapping ≡ M.OutOfDevice))

-- 12: "delivered: out of host memory, or map failed"
abbrev pub HostOut : Outcome → Type 0
HostOut o = (o ≡ O.OutOfHost) ⊎ ((m : Memory) × (o ≡ O.Made m) × ((m.mapping ≡ M.OutOfHost) ⊎ (m.mapping ≡ M.Failed)))

-- what 11 and 12 leave of the account: the order is closed; where memory was made the heap is charged and the object counted,
-- and what the engine gives back is given back
abbrev pub lost_for : Engine → StoreSettings → Account → KeptOrder → Outcome → Account
lost_for e s a k (O.Made m) = cond (gives_back e m.mapping) (back_account s a k.order.size) (charged_account s a k.order.size)
lost_for e s a k O.OutOfDevice = with_order a None
lost_for e s a k O.OutOfHost = with_order a None
