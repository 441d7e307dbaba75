use Rattle.text.specs.Written.{Stays}
use Rattle.damage.proofs.trials.try_word.Given as goal

abbrev pub invariant-loop-damage : goal.invariant-loop-damage
invariant-loop-damage g l = Stays (g.W.Write.contents l.fn.out) (g.W.Write.contents l.out)
