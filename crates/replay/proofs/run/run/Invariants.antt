use Rattle.text.specs.Written.{Stays}
use Rattle.replay.proofs.run.run.Given as goal

abbrev pub invariant-loop-n : goal.invariant-loop-n
invariant-loop-n g l = Stays (g.W.Write.contents l.fn.out) (g.W.Write.contents l.out)
