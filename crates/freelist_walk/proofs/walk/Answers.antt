use Rattle.std.proofs.Common.{arith}
use Rattle.freelist_walk.proofs.Going.{going_starts, going_ends}
use Rattle.freelist_walk.proofs.walk.Goals as goal

pub loop-s-init : goal.loop-s-init
loop-s-init c =
    let g = c.args.ground.now in
    going_starts g.most g.held g.chunks.now g.loans.now g.places g.index.now g.regions.now g.count c.args.live c.requires

pub returns : goal.returns
returns c =
    let g = c.args.ground.now in
    going_ends g.most g.held g.chunks.now g.loans.now g.places g.index.now g.regions.now g.count c.args.live c.loop-s.s c.loop-s.invariant (omega arith) c.is_done.result c.is_done.ensures
