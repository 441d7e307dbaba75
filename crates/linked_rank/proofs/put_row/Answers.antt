use Rattle.linked_rank.proofs.Rows.{row_put}
use Rattle.linked_rank.proofs.put_row.Goals as goal

pub returns : goal.returns
returns c =
    let a = c.args in
    row_put a.row a.u a.w.now _ _ _ c.put_types.ensures c.put.ensures c.put-2.ensures
