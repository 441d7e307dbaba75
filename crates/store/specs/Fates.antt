-- The code's words for a delivery, in the definitions' words.
use Rattle.std.specs.Prelude.{Bool, true, ◌&&◌, not, ℕ, Result, Ok, Err}
use Rattle.counter.specs.Paper.{number_of, free_of}
use Rattle.counter.specs.declared.answers.Outcome.{Outcome}
use Rattle.counter.specs.declared.answers.Outcome.TheVariants as O
use Rattle.store_rules.specs.Delivery as Delivery
use Rattle.store.specs.declared.fates.Engine.{Engine}
use Rattle.store.specs.declared.fates.Engine.TheVariants.{Buddy, FreeList}
use Rattle.store.specs.declared.fates.Loss.{Loss}

abbrev pub engine_of : Engine → Delivery.Engine
engine_of Buddy = Delivery.buddy
engine_of FreeList = Delivery.free_list

abbrev pub fate_from : Result ℕ Loss → Delivery.Fate
fate_from (Ok m) = Delivery.kept m
fate_from (Err l) = Delivery.lost (number_of l.refusal) l.charged (free_of l.free)

-- 13, where the store's own test says whether the memory is already held: proofs/Deliveries shows that it is delivery_ok
abbrev pub deliverable : Bool → Bool → Outcome → Bool
deliverable map held (O.Made m) = not held && Delivery.suits map m.mapping
deliverable map held O.OutOfDevice = true
deliverable map held O.OutOfHost = true
