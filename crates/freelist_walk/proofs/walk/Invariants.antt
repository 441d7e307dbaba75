use Rattle.freelist_walk.specs.Turn.{togo}
use Rattle.freelist_walk.proofs.Going.{Going}
use Rattle.freelist_walk.proofs.walk.Given as goal

abbrev pub invariant-loop-s : goal.invariant-loop-s
invariant-loop-s l =
    let g = l.ground in
    Going g.most g.held g.chunks.now g.loans.now g.places g.index.now g.regions.now g.count l.live l.s

abbrev pub decreases-loop-s : goal.decreases-loop-s
decreases-loop-s l = togo l.ground.held l.s
