-- A heap's history. 01, "heap.rs": "From used and totals 0, used always equals the charges less the releases and give-backs
-- in the history, and allocated less deallocated; a give-back is a release."
use Rattle.std.specs.Prelude.{ℕ, ◌+◌, ◌^◌, ◌<◌, ◌≤◌, List, [], ◌∷◌}
use Rattle.counter.specs.Account.{value, no_total}
use Rattle.counter.specs.Limits.{heap_bytes_most}
use Rattle.counter.specs.declared.account.Heap.{Heap}
use Rattle.heap.specs.Heap.{charged_of, released_of}

pub data Entry : Type 0 where
  charge : ℕ → Entry
  release : ℕ → Entry

-- a heap of this size, from used and totals 0
abbrev pub new_heap : ℕ → Heap
new_heap size = record { size = size; used = 0; allocated = no_total; deallocated = no_total }

abbrev pub entered : Heap → Entry → Heap
entered h (charge bytes) = charged_of h bytes
entered h (release bytes) = released_of h bytes

-- the heap after a history, the oldest entry first
abbrev pub after : Heap → List Entry → Heap
after h [] = h
after h (e ∷ es) = after (entered h e) es

-- an entry that passes no bound: a charge within 2^62 and 128 bits, a release of no more than is used
abbrev pub Fitting : Heap → Entry → Type 0
Fitting h (charge bytes) = (h.used + bytes ≤ heap_bytes_most) × (value h.allocated + bytes < 2 ^ 128)
Fitting h (release bytes) = (bytes ≤ h.used) × (value h.deallocated + bytes < 2 ^ 128)

abbrev pub AllFitting : Heap → List Entry → Type 0
AllFitting h [] = Unit {0}
AllFitting h (e ∷ es) = Fitting h e × AllFitting (entered h e) es

-- what the history charged and released in all
abbrev pub charges : List Entry → ℕ
charges [] = 0
charges (charge bytes ∷ es) = bytes + charges es
charges (release bytes ∷ es) = charges es

abbrev pub releases : List Entry → ℕ
releases [] = 0
releases (charge bytes ∷ es) = releases es
releases (release bytes ∷ es) = bytes + releases es
