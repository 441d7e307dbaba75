-- Tables that have an engine's marks, slot by slot.
use mathlib.Core.Path.{◌≡◌}
use Rattle.store_rules.specs.Tables.{Tables, Marks, Signed}
use Rattle.engines.specs.Pools.{Slot, of_head, of_loans, of_chunks, of_index, of_room, table_of, seal, sign_of}

pub in_slot : (m : Marks) (t : Tables) → Signed m t → (z : Slot) → seal (table_of t z) ≡ sign_of m z
in_slot m t S of_head = S.head
in_slot m t S of_loans = S.loans
in_slot m t S of_chunks = S.chunks
in_slot m t S of_index = S.index
in_slot m t S of_room = S.room
