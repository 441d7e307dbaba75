use Rattle.freelist_walk.proofs.Going.{done_is}
use Rattle.freelist_walk.proofs.is_done.Goals as goal

pub returns : goal.returns
returns c =
    let g = c.args.ground.now in
    done_is g.most g.index.now g.regions.now g.count c.args.s c.record_after-next.result c.record_before-back.result c.word-whole.result c.record_after-next.ensures c.record_before-back.ensures c.word-whole.ensures
