-- 01's table, "When the counter says no", once for every engine: what the rows say of the account, of what a user sees of the
-- store and of the words that the engine gives, in the order of the tests.
use Rattle.std.specs.Prelude.{◌≡◌, ◌⊎◌, List, map, ℕ, ◌+◌, ◌^◌, ◌≤◌, ◌<◌, length}
use Rattle.counter.specs.Account.{value, heap_at}
use Rattle.counter.specs.Limits.{heap_bytes_most, spent}
use Rattle.counter.specs.Reasons.{Reasons, none, reason, thereafter, Clear}
use Rattle.counter.specs.declared.account.Account.{Account}
use Rattle.counter.specs.declared.account.Heap.{Heap}
use Rattle.counter.specs.declared.account.KeptOrder.{KeptOrder}
use Rattle.std.specs.Prelude.{Some}
use Rattle.counter.specs.declared.answers.Block.{Block}
use Rattle.counter.specs.declared.answers.Outcome.{Outcome}
use Rattle.counter.specs.declared.settings.StoreSettings.{StoreSettings}
use Rattle.store_rules.specs.Orders.{order_from}
use Rattle.store_rules.specs.Refusals.{HeapsIn, OrderOpen, NoneFor, Uncovered, MaskOff, UnwelcomeTo, DeviceOut, HostOut}
use Rattle.store_rules.specs.Views.{OnLoan, sizes}
use Rattle.store_rules.specs.declared.Chunk.{Chunk}
use Rattle.store_rules.specs.Words.{Words}

-- an open order to which the tests of its ask lead: none of them speaks, a chunk is needed, and this is the order for it
pub record LeadsTo (own : StoreSettings) (a : Account) (tests : KeptOrder → Reasons) (Lacks : KeptOrder → Type 0) (size : KeptOrder → ℕ) : Type 0 where
  pub kept : KeptOrder
  pub its : a.order ≡ Some kept
  pub clear : Clear (tests kept)
  pub needed : Lacks kept
  pub same : kept.order ≡ order_from own (size kept)

module _ (E : Words) where
  -- 1: "a value outside the table", "a lent table of the wrong length": what set-up is lent, and the account's heaps
  abbrev pub InTable : E.Settings → Account → E.Tables → Type 0
  InTable s a t = E.Fits s t × HeapsIn a

  -- 1: "a release list shorter than the chunk limit"
  abbrev pub WithList : E.Settings → Account → E.Tables → List ℕ → Type 0
  WithList s a t list = InTable s a t × ((E.store s).chunks ≤ length list)

  -- 4: the account against this store's chunks
  abbrev pub Short : E.Settings → Account → E.Tables → Type 0
  Short s a t =
      Uncovered (heap_at a (E.store s).heap) a.objects (length (E.view s t).chunks) (sizes (E.view s t).chunks)

  -- 7: "no loan has this serial, chunk, offset and size"
  abbrev pub Stale : E.Settings → Block → E.Tables → Type 0
  Stale s b t = OnLoan b (E.view s t).loans → ⊥

  -- 8: "no loan place; or a chunk is needed and no chunk place is vacant; or a level that needs a new pair has none", by how
  -- many are in use
  abbrev pub Full : E.Settings → ℕ → ℕ → E.Tables → Type 0
  Full s size mask t =
      ((E.store s).loans ≤ length (E.view s t).loans)
      ⊎ ((E.Needed s size mask t × ((E.store s).chunks ≤ length (E.view s t).chunks)) ⊎ E.Roomless s size mask t)

  -- 10: "serials are spent; or a chunk is needed and heap used would pass 2^62, the 128-bit allocated total would overflow, or
  -- chunk numbers are spent"
  abbrev pub Spent : E.Settings → Heap → ℕ → ℕ → E.Tables → Type 0
  Spent s h size mask t =
      (spent ≤ E.given t)
      ⊎ (E.Needed s size mask t
      × ((heap_bytes_most < h.used + E.order_size s size mask t)
      ⊎ ((2 ^ 128 ≤ value h.allocated + E.order_size s size mask t) ⊎ E.Numberless s t)))

  -- 9: "a chunk is needed and no device object remains"
  abbrev pub NoObject : E.Settings → ℕ → ℕ → ℕ → E.Tables → Type 0
  NoObject s objects size mask t = E.Needed s size mask t × (objects ≡ 0)

  -- ---- the tests of each call, in their order

  -- 1 to 4 of a call that is lent no list, and of one that is
  abbrev pub gate_rows : E.Settings → Account → E.Tables → Reasons
  gate_rows s a t =
      reason (InTable s a t → ⊥) 1 (reason (OrderOpen a) 2 (reason (E.Sound s t → ⊥) 3 (reason (Short s a t) 4 none)))

  abbrev pub list_rows : E.Settings → Account → E.Tables → List ℕ → Reasons
  list_rows s a t list =
      reason (WithList s a t list → ⊥) 1 (reason (OrderOpen a) 2 (reason (E.Sound s t → ⊥) 3 (reason (Short s a t) 4 none)))

  -- "5, 6, 8, 10, 9 for an ask"
  abbrev pub ask_tests : E.Settings → Heap → ℕ → ℕ → ℕ → E.Tables → Reasons
  ask_tests s h objects size mask t =
      reason (MaskOff mask ⊎ E.MaskHigh s mask) 5
      (reason (E.SizeOff s size mask) 6
      (reason (Full s size mask t) 8 (reason (Spent s h size mask t) 10 (reason (NoObject s objects size mask t) 9 none))))

  abbrev pub ask_rows : E.Settings → Account → ℕ → ℕ → E.Tables → Reasons
  ask_rows s a size mask t = thereafter (gate_rows s a t) (ask_tests s (heap_at a (E.store s).heap) a.objects size mask t)

  -- 3 on a delivery: "tests 5 to 10 on the kept ask" lead "to that order": none of them speaks, a chunk is needed, and this
  -- is the order for it
  abbrev pub Leads : E.Settings → Account → E.Tables → Type 0
  Leads s a t =
      LeadsTo (E.store s) a (λ k. ask_tests s (heap_at a (E.store s).heap) a.objects k.ask.size k.ask.mask t) (λ k. E.Needed s k.ask.size k.ask.mask t) (λ k. E.order_size s k.ask.size k.ask.mask t)

  -- 1 to 4 of a delivery
  abbrev pub kept_rows : E.Settings → Account → E.Tables → Reasons
  kept_rows s a t =
      reason (InTable s a t → ⊥) 1
      (reason (NoneFor (E.store s).number a) 2 (reason (E.Sound s t × Leads s a t → ⊥) 3 (reason (Short s a t) 4 none)))

  -- "13, 11, 12 for a delivery"
  abbrev pub deliver_rows : E.Settings → Account → Outcome → E.Tables → Reasons
  deliver_rows s a o t =
      thereafter (kept_rows s a t)
      (reason (UnwelcomeTo a (map (λ (c : Chunk). c.memory) (E.view s t).chunks) o) 13 (reason (DeviceOut o) 11 (reason (HostOut o) 12 none)))

  -- "7 for a return"
  abbrev pub return_rows : E.Settings → Account → Block → E.Tables → List ℕ → Reasons
  return_rows s a b t list = thereafter (list_rows s a t list) (reason (Stale s b t) 7 none)

  -- "Set-up and ranking test only 1"
  abbrev pub set_up_rows : E.Settings → E.Tables → Reasons
  set_up_rows s t = reason (E.Fits s t → ⊥) 1 none
