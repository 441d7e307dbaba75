-- The gate of a buddy store: 01's tests 1 to 4.
use Rattle.std.specs.Prelude.{Bool, cond, ◌&&◌, ℕ, zero, suc, ◌+◌}
use Rattle.counter.specs.Account.{heap_at}
use Rattle.counter.specs.Gate.{Verdict, first}
use Rattle.counter.specs.Table.{buddy_ok, heaps_ok}
use Rattle.counter.specs.declared.account.Account.{Account}
use Rattle.counter.specs.declared.settings.BuddySettings.{BuddySettings}
use Rattle.store_rules.specs.Tests.{no_order, covers_ok, gate_row}
use Rattle.buddy_rules.specs.Tables.{Tables, lengths_ok, chunk_places_in, chunk_size_in, held_in}
use Rattle.buddy_rules.specs.Test.{sound_ok}

-- 1: every value, and every table's length
unfoldable pub in_table_ok : BuddySettings → Account → Tables → Bool
in_table_ok s a t = buddy_ok s && (heaps_ok a.heaps && lengths_ok s t)

-- how many chunks stand at the first n places, and how many bytes they have
unfoldable pub held_count : Tables → ℕ → ℕ
held_count t zero = 0
held_count t (suc n) = held_count t n + cond (held_in t n) 1 0

unfoldable pub held_bytes : Tables → ℕ → ℕ
held_bytes t zero = 0
held_bytes t (suc n) = held_bytes t n + cond (held_in t n) (chunk_size_in t n) 0

-- 4, of the store's own heap
unfoldable pub account_ok : BuddySettings → Account → Tables → Bool
account_ok s a t = covers_ok (heap_at a s.store.heap) a.objects (held_count t (chunk_places_in t)) (held_bytes t (chunk_places_in t))

-- of an ask and a return: no order may be open; `list` says whether the release list is long enough
unfoldable pub gate_of : BuddySettings → Account → Tables → Bool → Verdict
gate_of s a t list = first (gate_row (in_table_ok s a t && list) (no_order a.order) (sound_ok s t) (account_ok s a t))
