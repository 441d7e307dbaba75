use Prim.Native.Nat.{◌-◌}
use Rattle.rounding_rules.proofs.Growth.{Reached}
use Rattle.rounding.proofs.grow.Given as goal

abbrev pub invariant-loop-c : goal.invariant-loop-c
invariant-loop-c l = Reached l.chunk l.size l.c

abbrev pub decreases-loop-c : goal.decreases-loop-c
decreases-loop-c l = l.size - l.c
