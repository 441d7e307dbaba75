use Rattle.freelist_marks.proofs.Finding.{numbers_part, there, nowhere}
use Rattle.freelist_marks.proofs.chunks.find_chunk.Goals as goal

pub seat-j-requires : goal.seat-j-requires
seat-j-requires c =
    numbers_part c.args.t.now c.args.k c.args.number c.requires

pub returns-then-j-k : goal.returns-then-j-k
returns-then-j-k c =
    there c.args.t.now c.args.k c.args.number c.requires c.seat-j.result c.seat-j.ensures c.chunk_at-c.result c.chunk_at-c.ensures c.if-j-k.true

pub returns-else-j-k : goal.returns-else-j-k
returns-else-j-k c =
    nowhere c.args.t.now c.args.k c.args.number c.requires c.seat-j.result c.seat-j.ensures c.chunk_at-c.result c.chunk_at-c.ensures c.if-j-k.false
