use Rattle.freelist_test.proofs.Groups.{chunk_told}
use Rattle.freelist_test.proofs.chunks.is_chunk.Goals as goal

pub returns : goal.returns
returns c =
    let a = c.args in
    chunk_told a.s a.made a.size a.c c.is_sized.result c.is_sized.ensures
