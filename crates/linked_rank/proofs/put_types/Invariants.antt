use Rattle.std.proofs.Common.{◌≡◌}
use Rattle.linked_rank.specs.Rows.{types_out}
use Rattle.linked_rank.proofs.put_types.Given as goal

abbrev pub invariant-loop-j : goal.invariant-loop-j
invariant-loop-j l = l.w ≡ types_out l.types l.u l.j l.initial.w
