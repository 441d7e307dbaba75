use Rattle.buddy_levels.proofs.Steps.{level_fresh}
use Rattle.buddy_levels.proofs.fresh_level.Goals as goal

pub returns : goal.returns
returns c =
    let a = c.args in
    level_fresh a.base a.tree.now _ _ _ c.put.ensures c.put-2.ensures c.put-3.ensures
