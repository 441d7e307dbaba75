use mathlib.Core.Path.{◌≡◌}
use Prim.Native.Nat.{◌-◌, ◌≤◌}
use Rattle.buddy_decide.proofs.Shows.{Onward}
use Rattle.buddy_decide.proofs.seeking.seek.Given as goal

abbrev pub invariant-loop-l : goal.invariant-loop-l
invariant-loop-l l = (l.level ≤ l.l) × (Onward l.minimal l.pairs l.level l.levels l.tree l.level ≡ Onward l.minimal l.pairs l.level l.levels l.tree l.l)

abbrev pub decreases-loop-l : goal.decreases-loop-l
decreases-loop-l l = l.levels - l.l
