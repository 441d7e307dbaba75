use Rattle.freelist_rules.specs.Records.{chunk}
use Rattle.freelist_regions.proofs.Whole.{three_read}
use Rattle.freelist_regions.proofs.records.chunk_at.Goals as goal

pub returns : goal.returns
returns c =
    let a = c.args in
    three_read a.t.now 3 a.i chunk _ _ _ c.cell.ensures c.cell-2.ensures c.cell-3.ensures
