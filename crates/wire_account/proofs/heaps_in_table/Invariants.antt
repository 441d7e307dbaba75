use mathlib.Core.Path.{◌≡◌}
use Rattle.counter.specs.Limits.{heaps_most}
use Rattle.counter.specs.Table.{heaps_upto}
use Rattle.wire_rules.specs.Wire.{heaps_in}
use Rattle.wire_account.proofs.heaps_in_table.Given as goal

abbrev pub invariant-loop-i : goal.invariant-loop-i
invariant-loop-i l = l.ok ≡ heaps_upto (heaps_in l.w heaps_most) l.i
