use Rattle.std.proofs.Common.{arith}
use Rattle.freelist_regions.proofs.Passing.{more_passed}
use Rattle.freelist_regions.proofs.search.without_short.Goals as goal

pub loop-k-init : goal.loop-k-init
loop-k-init c = (omega arith, λ j h g mask. absurd (omega arith))

pub returns-then-not-are_short : goal.returns-then-not-are_short
returns-then-not-are_short c = c.loop-k.invariant

pub loop-k-preserved : goal.loop-k-preserved
loop-k-preserved c =
    let l = c.loop-k in
    let a = c.args in
    (omega arith, more_passed a.size a.t.now 4 l.k a.n (omega arith) (c.are_short.ensures c.if-not-are_short.false) l.invariant.1)

pub returns : goal.returns
returns c = c.loop-k.invariant
