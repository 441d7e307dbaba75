use Rattle.freelist_rules.specs.Tables.{tables}
use Rattle.freelist.proofs.Wholes.{returned_whole}
use Rattle.freelist.proofs.returns.return_block.Goals as goal

pub returns : goal.returns
returns c =
    let a = c.args in
    returned_whole a.s a.a _ c.share_of-share.ensures (tables a.head.now a.loans.now a.chunks.now a.index.now a.regions.now) _ a.list.now _ _ _ _ c.released.ensures.0 c.released.ensures.1 a.b c.return_block-r.ensures
