-- The gate of a free-list store: 01's tests 1 to 4.
use Rattle.std.specs.Prelude.{Bool, ◌&&◌}
use Rattle.counter.specs.Account.{heap_at}
use Rattle.counter.specs.Gate.{Verdict, first}
use Rattle.counter.specs.Table.{free_list_ok, heaps_ok}
use Rattle.counter.specs.declared.account.Account.{Account}
use Rattle.counter.specs.declared.settings.FreeListSettings.{FreeListSettings}
use Rattle.store_rules.specs.Tests.{no_order, covers_ok, gate_row}
use Rattle.freelist_rules.specs.Pieces.{total}
use Rattle.freelist_rules.specs.Tables.{Tables, lengths_ok, chunks_in, store_of, sound_ok}
use Rattle.store_rules.specs.declared.Chunk.{Chunk}

-- 1: every value, and every table's length
unfoldable pub in_table_ok : FreeListSettings → Account → Tables → Bool
in_table_ok s a t = free_list_ok s && (heaps_ok a.heaps && lengths_ok s t)

-- 4, of the store's own heap
unfoldable pub account_ok : FreeListSettings → Account → Tables → Bool
account_ok s a t =
    covers_ok (heap_at a s.store.heap) a.objects (chunks_in t) (total (λ (c : Chunk). c.size) (store_of s t).chunks)

-- of an ask, a return and a clean-up: no order may be open; `list` says whether the release list is long enough
unfoldable pub gate_of : FreeListSettings → Account → Tables → Bool → Verdict
gate_of s a t list = first (gate_row (in_table_ok s a t && list) (no_order a.order) (sound_ok s t) (account_ok s a t))
