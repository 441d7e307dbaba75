-- Any history of calls of both engines, of any number of stores over one account: each heap holds what was charged less what was
-- released and given back, and the device objects fall and rise with the memory numbers.
use mathlib.Core.Path.{◌≡◌}
use mathlib.Core.List.{List}
use Prim.Native.Nat.{ℕ, ◌+◌}
use Rattle.counter.specs.Account.{Typed, heap_at}
use Rattle.heap.specs.History.{new_heap}
use Rattle.heap.proofs.History.{Adds, FromNothing}
use Rattle.engines.specs.Histories.{State, run, books_at, accepted_in, freed_in}
use Rattle.engines.proofs.HeapAndObjects as Of
use Rattle.histories.specs.Which.{Which}
use Rattle.histories.proofs.Both.{both, Call}

-- from used and totals 0, heap j's used is the charges less the releases and give-backs that the history books on it, and
-- allocated less deallocated
pub heap_history : (w : State) (vs : List Call) (j size : ℕ) → Typed w.account → heap_at w.account j ≡ new_heap size
    → FromNothing (books_at Which both j w vs) (heap_at (run Which both w vs).account j)
heap_history w vs j size typed new = Of.heap_history Which both w vs j size typed new

-- from any account that code can lend: what the history adds
pub heap_adds : (w : State) (vs : List Call) (j : ℕ) → Typed w.account → Adds (heap_at w.account j) (books_at Which both j w vs) (heap_at (run Which both w vs).account j)
heap_adds w vs j typed = Of.heap_adds Which both w vs j typed

-- device objects: memory numbers accepted, and those released or given back
pub objects_history : (w : State) (vs : List Call)
    → (run Which both w vs).account.objects + accepted_in Which both w vs ≡ w.account.objects + freed_in Which both w vs
objects_history w vs = Of.objects_history Which both w vs
