use Rattle.words.specs.Rows.{rows}
use Rattle.freelist_rules.specs.Records.{chunk_row}
use Rattle.freelist_marks.proofs.Finding.{going_late}
use Rattle.freelist_marks.proofs.marks.going_at.Goals as goal

pub returns : goal.returns
returns c =
    let a = c.args in
    going_late (rows chunk_row a.k a.chunks.now) a.regions.now a.i a.spared _ c.cell-start.ensures c.if-start-spared.false
