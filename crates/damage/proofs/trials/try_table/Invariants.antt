use Rattle.text.specs.Written.{Stays}
use Rattle.damage.proofs.trials.try_table.Given as goal

abbrev pub invariant-loop-word : goal.invariant-loop-word
invariant-loop-word g l = Stays (g.W.Write.contents l.fn.out) (g.W.Write.contents l.out)
