use mathlib.Core.Path.{◌≡◌}
use Prim.Native.Nat.{◌≤◌}
use lib.ListN.{length}
use Rattle.words.proofs.Moved.{rising}
use Rattle.words.proofs.moves.up_by_ones.Given as goal

abbrev pub invariant-loop-j : goal.invariant-loop-j
invariant-loop-j l = (l.j ≤ l.m) × (l.t ≡ rising l.src l.dst l.m l.j l.initial.t) × (length l.t ≡ length l.initial.t)

abbrev pub decreases-loop-j : goal.decreases-loop-j
decreases-loop-j l = l.j
