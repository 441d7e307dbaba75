use Rattle.freelist_walk.proofs.Reading.{chunk_read}
use Rattle.freelist_walk.proofs.records.chunk_in.Goals as goal

pub returns : goal.returns
returns c = let a = c.args in chunk_read a.t.now a.i
