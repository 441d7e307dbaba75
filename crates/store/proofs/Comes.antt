-- What a delivery comes to, where it is told rightly whether the memory is held, is what it is to come to.
use mathlib.Core.Path.{◌≡◌, refl, sym, ap}
use mathlib.Core.Bool.{Bool, false, cond}
use mathlib.Core.List.{List}
use Prim.Native.Nat.{ℕ}
use Rattle.counter.specs.Open.{OpenOrder}
use Rattle.std.specs.Prelude.{None, Some}
use Rattle.counter.specs.declared.answers.Outcome.{Outcome}
use Rattle.counter.specs.declared.answers.Outcome.TheVariants as O
use Rattle.store_rules.specs.Arrivals.{deny, go, arrival_of}
use Rattle.store_rules.specs.Delivery.{Engine, delivery_ok, fate_of}
use Rattle.store.specs.Comings.{known_in, comes}
use Rattle.store.specs.Fates.{deliverable}
use Rattle.store.proofs.Deliveries.{deliverable_is}

known_is : (map : Bool) (ms : List ℕ) (o : Outcome) → deliverable map (known_in ms o) o ≡ delivery_ok map ms o
known_is map ms (O.Made m) = deliverable_is map (known_in ms (O.Made m)) ms (O.Made m) (λ n e. ap (known_in ms) (sym e))
known_is map ms O.OutOfDevice = deliverable_is map false ms O.OutOfDevice (λ n e. ap (known_in ms) (sym e))
known_is map ms O.OutOfHost = deliverable_is map false ms O.OutOfHost (λ n e. ap (known_in ms) (sym e))

pub comes_is : (e : Engine) (o : Outcome) (ms : List ℕ) (order : OpenOrder) → comes e o (known_in ms o) order ≡ arrival_of e o ms order
comes_is e o ms None = refl
comes_is e o ms (Some k) = ap (λ (b : Bool). cond b (go k (fate_of e o)) (deny 13)) (known_is k.order.map ms o)
