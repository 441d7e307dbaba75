use Rattle.text.specs.Written.{Stays}
use Rattle.text.proofs.print_row.Given as goal

abbrev pub invariant-loop-t : goal.invariant-loop-t
invariant-loop-t g l = Stays (g.W.Write.contents l.fn.out) (g.W.Write.contents l.out)
