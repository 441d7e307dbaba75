use Rattle.buddy_levels.proofs.Steps.{pair_backed}
use Rattle.buddy_levels.proofs.ready_pair.Goals as goal

pub returns : goal.returns
returns c =
    let a = c.args in
    pair_backed a.base a.tree.now a.p _ _ _ _ _ _ c.join.ensures c.ready_tag.ensures c.put_field_in.ensures c.word_at.ensures c.put_field_in-2.ensures
