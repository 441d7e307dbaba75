use Rattle.text.specs.Written.{Stays}
use Rattle.damage.proofs.trials.try_tables.Given as goal

abbrev pub invariant-loop-table : goal.invariant-loop-table
invariant-loop-table g l = Stays (g.W.Write.contents l.fn.out) (g.W.Write.contents l.out)
