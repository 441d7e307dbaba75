use native.Mathlib.Omega.{arith}
use lib.ListN.{length}
use Rattle.distinct.proofs.Filling.{column_next}
use Rattle.distinct.proofs.gather.Goals as goal

pub loop-i-preserved : goal.loop-i-preserved
loop-i-preserved c =
    let a = c.args in
    rw c.word.ensures (column_next a.t.now c.loop-i.found a.c.at a.c.width c.loop-i.i (length a.found.now) (omega arith) (omega arith) c.loop-i.invariant)
