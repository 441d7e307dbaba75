-- What an engine grants that does not turn everything away, beside the laws of `Engine`: 01's table as far as every store is told it, and the
-- smallest ask of a store that was just set up.
use Rattle.std.specs.Prelude.{◌≡◌, [], ℕ, ◌+◌, ◌^◌, ◌≤◌, ◌<◌}
use Rattle.counter.specs.Account.{value, heap_at}
use Rattle.counter.specs.InTable.{StoreIn}
use Rattle.counter.specs.Limits.{heap_bytes_most, objects_most}
use Rattle.counter.specs.Paper as Paper
use Rattle.counter.specs.declared.account.Account.{Account}
use Rattle.counter.specs.declared.settings.StoreSettings.{StoreSettings}
use Rattle.store_rules.specs.Refusals.{HeapsIn, OrderOpen}
use Rattle.store_rules.specs.declared.Chunk.{Chunk}
use Rattle.engines.specs.Further.{Unlent}
use Rattle.engines.specs.Shapes.{Tables, Shape}

-- no chunk is longer than 01's greatest minimal size, 65,536, x 2^32
abbrev pub order_most : ℕ
order_most = 2 ^ 48

-- an account that has room for a chunk of any length on heap h: its values are in 01's table, no order is open, the heap's totals
-- agree, and a device object remains
pub record Roomy (h : ℕ) (a : Account) : Type 0 where
  pub heaps : HeapsIn a
  pub shut : OrderOpen a → ⊥
  pub agrees : value (heap_at a h).deallocated + (heap_at a h).used ≡ value (heap_at a h).allocated
  pub some : 0 < a.objects
  pub few : a.objects ≤ objects_most
  pub used : (heap_at a h).used + order_most ≤ heap_bytes_most
  pub total : value (heap_at a h).allocated + order_most < 2 ^ 128

pub record Grants (E : Shape) : Type 0 where
  -- 1: for whatever 01's table allows a store, this engine has settings, and tables that it takes with them
  pub allows : (o : StoreSettings) → StoreIn o → (s : E.Settings) × (t : Tables) × (E.store s ≡ o) × E.Fits s t
  -- and it takes nothing that the table does not allow a store
  pub allowed : (s : E.Settings) (t : Tables) → E.Fits s t → StoreIn (E.store s)
  -- 5 and 6: no word of its own turns away an ask for one byte with mask 0
  pub smallest : (s : E.Settings) (t : Tables) → E.Fits s t → (E.MaskHigh s 0 → ⊥) × (E.SizeOff s 1 0 → ⊥)
  -- 6: "size 0"
  pub size_none : (s : E.Settings) (mask : ℕ) → E.SizeOff s 0 mask
  -- 8: a store that holds no chunk has run out of nothing, whatever is asked
  pub empty_room : (s : E.Settings) (size mask : ℕ) (t : Tables) → E.Fits s t → E.Sound s t → (E.view s t).chunks ≡ [] → E.Roomless s size mask t → ⊥
  -- 10: nor one that was just set up of numbers
  pub new_numbers : (s : E.Settings) (t : Tables) → (E.set_up s t).said ≡ Paper.ready → E.Numberless s (E.set_up s t).tables → ⊥
  -- a held chunk in which no block is on loan has a fitting free place for every ask that is no longer than it
  pub idle_serves : (s : E.Settings) (size mask : ℕ) (t : Tables) → E.Fits s t → E.Sound s t → (c : Chunk) → Unlent (E.view s t) c → size ≤ c.size → E.Needed s size mask t → ⊥
  -- the chunk that an ask would order is never longer than any that 01 allows
  pub order_most_lem : (s : E.Settings) (size mask : ℕ) (t : Tables) → E.Fits s t → E.Sound s t → (E.SizeOff s size mask → ⊥) → E.order_size s size mask t ≤ order_most
