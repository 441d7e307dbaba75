use Rattle.freelist_place.proofs.Writing.{twice_set}
use Rattle.freelist_rules.specs.Tables.{made_at, chunks_at}
use Rattle.freelist_place.proofs.adding.count_chunk.Goals as goal

pub returns : goal.returns
returns c =
    let a = c.args in
    twice_set a.chunks.now _ _ chunks_at made_at a.held a.number c.put.ensures c.put-2.ensures
