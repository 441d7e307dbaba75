use Rattle.text.specs.Written.{Stays}
use Rattle.damage.proofs.trials.try_damage.Given as goal

abbrev pub invariant-loop-call : goal.invariant-loop-call
invariant-loop-call g l = Stays (g.W.Write.contents l.fn.out) (g.W.Write.contents l.out)
