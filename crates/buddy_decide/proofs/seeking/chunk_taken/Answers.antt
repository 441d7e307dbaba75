use Rattle.buddy_decide.proofs.Shows.{taken_is}
use Rattle.buddy_decide.proofs.seeking.chunk_taken.Goals as goal

pub returns : goal.returns
returns c =
    let a = c.args in
    taken_is a.pairs a.chunks.now a.tree.now _ _ _ _ c.word.ensures c.chunks_from-at.ensures.value c.led_to.ensures c.insert.ensures
