use Rattle.std.proofs.Common.{◌≡◌}
use Rattle.counter.specs.Table.{heaps_upto}
use Rattle.counter.proofs.account.heaps_in_table.Given as goal

abbrev pub invariant-loop-h : goal.invariant-loop-h
invariant-loop-h l = l.ok ≡ heaps_upto l.fn.heaps l.h-index
