use Rattle.buddy_grow.proofs.Grown.{grown_done}
use Rattle.buddy_grow.proofs.growing.grow.Goals as goal

pub returns : goal.returns
returns c =
    let a = c.args in
    grown_done a.s a.n _ a.head.now a.tree.now _ _ c.word-levels.ensures c.fresh_levels.ensures c.put.ensures
