use mathlib.Core.Path.{◌≡◌}
use Prim.Native.Nat.{◌*◌, ◌≤◌}
use lib.ListN.{length}
use Rattle.words.proofs.Moved.{rising}
use Rattle.words.proofs.moves.up_by_fours.Given as goal

abbrev pub invariant-loop-j : goal.invariant-loop-j
invariant-loop-j l = (l.j ≤ l.turns) × (l.t ≡ rising l.src l.dst (4 * l.turns) (4 * l.j) l.initial.t) × (length l.t ≡ length l.initial.t)

abbrev pub decreases-loop-j : goal.decreases-loop-j
decreases-loop-j l = l.j
