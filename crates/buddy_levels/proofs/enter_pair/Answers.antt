use Rattle.buddy_levels.proofs.Steps.{pair_entered}
use Rattle.buddy_levels.proofs.enter_pair.Goals as goal

pub returns : goal.returns
returns c =
    let a = c.args in
    pair_entered a.base a.tree.now a.p a.chunk a.offset a.node a.left _ _ c.write_pair.ensures c.stand_alone.ensures
