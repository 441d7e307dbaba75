use Rattle.std.proofs.Common.{◌∙◌}
use Rattle.words.specs.Rows.{rows}
use Rattle.freelist_rules.specs.Records.{chunk_row}
use Rattle.freelist_marks.proofs.Finding.{whole_told}
use Rattle.freelist_marks.proofs.marks.is_whole.Goals as goal

pub returns : goal.returns
returns c =
    let a = c.args in
    c.is_some.ensures ∙ whole_told (rows chunk_row a.k a.chunks.now) c.requires a.r c.whole_chunk.result c.whole_chunk.ensures
