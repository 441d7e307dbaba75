-- The tests that both engines share: the gate, and 01's numbers 2 and 4.
use Rattle.std.specs.Prelude.{Bool, true, false, ◌&&◌, [], ◌∷◌, ℕ, ◌+◌, eqb, leb}
use Rattle.counter.specs.Gate.{Row}
use Rattle.counter.specs.Limits.{objects_most}
use Rattle.counter.specs.declared.account.Heap.{Heap}
use Rattle.counter.specs.Open.{OpenOrder}
use Rattle.std.specs.Prelude.{None, Some}
use Rattle.heap.specs.Heap.{agrees_ok}

-- 2, on an ask, return or clean-up: no order is open
abbrev pub no_order : OpenOrder → Bool
no_order None = true
no_order (Some k) = false

-- 2, on a delivery: an order is open for the store with this number
abbrev pub open_for : ℕ → OpenOrder → Bool
open_for store None = false
open_for store (Some k) = eqb k.order.store store

-- 4: heap used covers the sum of the store's chunks and is allocated less deallocated, and objects with its chunks are
-- at most 2^32 - 1
unfoldable pub covers_ok : Heap → ℕ → ℕ → ℕ → Bool
covers_ok h objects chunks bytes = leb bytes h.used && (agrees_ok h && leb (objects + chunks) objects_most)

-- the gate that a call passes before it is decided: 1, every value and length; 2, the order; 3, the store; 4, the account
abbrev pub gate_row : Bool → Bool → Bool → Bool → Row
gate_row lent order sound covered = (lent, 1) ∷ (order, 2) ∷ (sound, 3) ∷ (covered, 4) ∷ []
