use Rattle.std.proofs.Common.{◌∙◌}
use Rattle.words.specs.Rows.{row, rows}
use Rattle.freelist_rules.specs.Records.{chunk_row, gap_row}
use Rattle.freelist_rules.specs.Threads.{region_in}
use Rattle.freelist_marks.proofs.Finding.{going_told}
use Rattle.freelist_marks.proofs.marks.goes_at.Goals as goal

pub returns : goal.returns
returns c =
    let a = c.args in
    c.is_some.ensures ∙ going_told (rows chunk_row a.k a.chunks.now) c.requires (region_in (row gap_row a.i a.regions.now)) a.spared c.going_at.result c.going_at.ensures
