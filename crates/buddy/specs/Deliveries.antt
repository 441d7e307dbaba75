-- The code's word for what a delivery comes to, in the definitions' words.
use Rattle.std.specs.Prelude.{Result, Ok, Err}
use Rattle.counter.specs.Paper.{number_of}
use Rattle.counter.specs.declared.refusal.Refusal.{Refusal}
use Rattle.store_rules.specs.Arrivals.{Arrival, deny}
use Rattle.store.specs.Comings.{coming_of}
use Rattle.store.specs.declared.comings.Coming.{Coming}
use Rattle.buddy_decide.specs.declared.plans.Buying.{Buying}

abbrev pub delivery_of : Result (Coming × Buying) Refusal → Arrival
delivery_of (Err r) = deny (number_of r)
delivery_of (Ok p) = coming_of (Ok p.0)
