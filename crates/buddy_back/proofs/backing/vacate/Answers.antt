use Rattle.buddy_back.proofs.Returned.{vacated_done}
use Rattle.buddy_back.proofs.backing.vacate.Goals as goal

pub returns : goal.returns
returns c = let a = c.args in record { chunks_after = c.put_cell.ensures; tree_after = vacated_done a.s a.c _ _ _ a.tree.now _ _ c.chunks_from-at.ensures.value c.word-last.ensures c.put_cell-2.ensures c.record_of.ensures c.put.ensures }
