-- The share that a call leaves, put together of what its parts come to.
use mathlib.Core.Path.{◌≡◌, ap, ◌∙◌}
use mathlib.Core.Bool.{Bool, ◌&&◌}
use Prim.Native.Nat.{ℕ, ◌+◌, ◌-◌, ◌≤◌}
use native.Mathlib.Omega.{arith}
use lib.Dec.{leb}
use borrow.Author.Tests.{leb-true, le-leb}
use Rattle.lists.proofs.Bools.{same_test}
use Rattle.counter.specs.Limits.{objects_most}
use Rattle.counter.specs.declared.account.Heap.{Heap}
use Rattle.heap.specs.Heap.{agrees_ok}
use Rattle.store_rules.specs.Tests.{covers_ok}

-- the code compares with what is left of the most, so that no sum passes a word
left_is : (objects chunks : ℕ) → objects ≤ objects_most → leb chunks (objects_most - objects) ≡ leb (objects + chunks) objects_most
left_is objects chunks h =
    same_test (leb chunks (objects_most - objects)) (leb (objects + chunks) objects_most)
    (λ e. le-leb (objects + chunks) objects_most (omega (arith, leb-true chunks (objects_most - objects) e)))
    (λ e. le-leb chunks (objects_most - objects) (omega (arith, leb-true (objects + chunks) objects_most e)))

pub covers_is : (h : Heap) (objects chunks bytes : ℕ) (ok : Bool) → objects ≤ objects_most → ok ≡ agrees_ok h → (leb bytes h.used && (ok && leb chunks (objects_most - objects))) ≡ covers_ok h objects chunks bytes
unfolding covers_ok
covers_is h objects chunks bytes ok most e =
    ap (λ (b : Bool). leb bytes h.used && (b && leb chunks (objects_most - objects))) e
    ∙ ap (λ (b : Bool). leb bytes h.used && (agrees_ok h && b)) (left_is objects chunks most)
