-- 13 as the code tests it is 13 as the paper says it, whichever way a store finds out whether a memory is held.
use mathlib.Core.Path.{◌≡◌, refl}
use mathlib.Core.Bool.{Bool}
use mathlib.Core.List.{List}
use Prim.Native.Nat.{ℕ}
use Rattle.counter.specs.declared.answers.Memory.{Memory}
use Rattle.counter.specs.declared.answers.Outcome.{Outcome}
use Rattle.counter.specs.declared.answers.Outcome.TheVariants as O
use Rattle.store_rules.specs.Delivery.{holds, delivery_ok}
use Rattle.store.specs.Fates.{deliverable}

pub deliverable_made : (map held : Bool) (ms : List ℕ) (m : Memory) → holds m.number ms ≡ held → deliverable map held (O.Made m) ≡ delivery_ok map ms (O.Made m)
unfolding delivery_ok
deliverable_made map held ms m h = rw h

-- where memory was made, what is said of its number has to be so; of the other outcomes nothing is asked
pub deliverable_is : (map held : Bool) (ms : List ℕ) (o : Outcome) → ((m : Memory) → o ≡ O.Made m → holds m.number ms ≡ held) → deliverable map held o ≡ delivery_ok map ms o
unfolding delivery_ok
deliverable_is map held ms (O.Made m) h = deliverable_made map held ms m (h m refl)
deliverable_is map held ms O.OutOfDevice h = refl
deliverable_is map held ms O.OutOfHost h = refl
