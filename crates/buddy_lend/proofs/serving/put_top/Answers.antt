use Rattle.buddy_lend.proofs.Served.{top_done}
use Rattle.buddy_lend.proofs.serving.put_top.Goals as goal

pub returns : goal.returns
returns c =
    let a = c.args in
    top_done a.pairs _ c.chunks_from-at.ensures.value a.tree.now a.c a.p _ a.vacant _ _ _ c.record_of.ensures c.put.ensures c.split_word.ensures c.put_cell.ensures
