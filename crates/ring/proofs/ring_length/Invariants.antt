use mathlib.Core.Path.{◌≡◌}
use Prim.Native.Nat.{◌-◌}
use Rattle.ring_rules.specs.Ring.{next, prev}
use Rattle.ring_rules.specs.Test.{met_after, ring_length}
use Rattle.ring.proofs.ring_length.Given as goal

abbrev pub invariant-loop-met : goal.invariant-loop-met
invariant-loop-met l =
    ring_length l.head l.next_at l.prev_at l.step l.places l.t ≡ met_after (next l.head l.next_at l.prev_at l.step l.t) (prev l.head l.next_at l.prev_at l.step l.t) l.places l.h l.p (l.places - l.met)
