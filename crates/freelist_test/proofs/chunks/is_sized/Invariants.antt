use Prim.Native.Nat.{◌-◌}
use Rattle.freelist_test.proofs.Sizes.{Doubling}
use Rattle.freelist_test.proofs.chunks.is_sized.Given as goal

abbrev pub invariant-loop-p : goal.invariant-loop-p
invariant-loop-p l = Doubling l.initial.p l.z l.p

abbrev pub decreases-loop-p : goal.decreases-loop-p
decreases-loop-p l = l.z - l.p
