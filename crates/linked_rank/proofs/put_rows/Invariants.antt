use Rattle.std.proofs.Common.{◌≡◌}
use Rattle.linked_rank.specs.Rows.{rows_out}
use Rattle.linked_rank.proofs.put_rows.Given as goal

abbrev pub invariant-loop-u : goal.invariant-loop-u
invariant-loop-u l = l.w ≡ rows_out l.rows l.u l.initial.w
