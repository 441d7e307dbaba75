use Rattle.freelist_regions.proofs.Whole.{three_written}
use Rattle.freelist_regions.proofs.records.put_chunk.Goals as goal

pub returns : goal.returns
returns c =
    let a = c.args in
    three_written a.t.now 3 a.i _ _ _ _ _ _ c.put_cell.ensures c.put_cell-2.ensures c.put_cell-3.ensures
