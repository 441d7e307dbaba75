use Rattle.text.specs.Written.{Stays}
use Rattle.text.proofs.stores.print_list.Given as goal

abbrev pub invariant-loop-memory : goal.invariant-loop-memory
invariant-loop-memory g l = Stays (g.W.Write.contents l.fn.out) (g.W.Write.contents l.out)
