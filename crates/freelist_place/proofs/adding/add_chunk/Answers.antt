use Rattle.freelist_place.proofs.Writing.{added_done}
use Rattle.freelist_place.proofs.adding.add_chunk.Goals as goal

pub returns : goal.returns
returns c =
    let a = c.args in
    added_done a.s a.memory a.size a.head.now a.chunks.now a.index.now a.regions.now c.requires.0 _ _ _ _ _ _ _ _ c.before_of-last.ensures c.word-k.ensures c.word-number.ensures c.double-twice.ensures c.put_chunk.ensures c.count_chunk.ensures c.append.ensures c.raise_size.ensures
