use mathlib.Core.Path.{◌≡◌}
use mathlib.Core.List.{◌++◌}
use Prim.Native.Nat.{◌-◌}
use lib.ListN.{length, take}
use Rattle.distinct.specs.Column.{column, column_from}
use Rattle.distinct.proofs.gather.Given as goal

abbrev pub invariant-loop-i : goal.invariant-loop-i
invariant-loop-i l = column l.t l.c.at l.c.width (length l.initial.found) ≡ take l.i l.found ++ column_from l.t l.c.at l.c.width l.i (length l.initial.found - l.i)
