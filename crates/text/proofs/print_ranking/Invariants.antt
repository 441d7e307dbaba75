use Rattle.text.specs.Written.{Stays}
use Rattle.text.proofs.print_ranking.Given as goal

abbrev pub invariant-loop-u : goal.invariant-loop-u
invariant-loop-u g l = Stays (g.W.Write.contents l.fn.out) (g.W.Write.contents l.out)
