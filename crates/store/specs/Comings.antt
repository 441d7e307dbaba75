-- The code's words for what a delivery comes to, in the definitions' words.
use Rattle.std.specs.Prelude.{Bool, false, cond, List, ℕ, None, Some, Result, Ok, Err}
use Rattle.counter.specs.Paper.{number_of, free_of}
use Rattle.counter.specs.Open.{OpenOrder}
use Rattle.counter.specs.declared.refusal.Refusal.{Refusal}
use Rattle.counter.specs.declared.answers.Outcome.{Outcome}
use Rattle.counter.specs.declared.answers.Outcome.TheVariants as O
use Rattle.store_rules.specs.Arrivals.{Arrival, deny, go}
use Rattle.store_rules.specs.Delivery.{Engine, kept, lost, holds, fate_of}
use Rattle.store.specs.Fates.{deliverable}
use Rattle.store.specs.declared.comings.Coming.{Coming}
use Rattle.store.specs.declared.comings.Coming.TheVariants.{Keep, Lose}

abbrev pub coming_of : Result Coming Refusal → Arrival
coming_of (Err r) = deny (number_of r)
coming_of (Ok (Keep k)) = go k.kept (kept k.memory)
coming_of (Ok (Lose l)) = go l.kept (lost (number_of l.loss.refusal) l.loss.charged (free_of l.loss.free))

-- the memory that an outcome brings is among those held
abbrev pub known_in : List ℕ → Outcome → Bool
known_in held (O.Made m) = holds m.number held
known_in held O.OutOfDevice = false
known_in held O.OutOfHost = false

-- what a delivery comes to, where it is known whether its memory is held
abbrev pub comes : Engine → Outcome → Bool → OpenOrder → Arrival
comes e o held None = deny 2
comes e o held (Some k) = cond (deliverable k.order.map held o) (go k (fate_of e o)) (deny 13)
