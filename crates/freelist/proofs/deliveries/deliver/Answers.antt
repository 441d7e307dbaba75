use Rattle.freelist_rules.specs.Tables.{tables}
use Rattle.freelist.proofs.Wholes.{delivered_whole}
use Rattle.freelist.proofs.deliveries.deliver.Goals as goal

pub returns : goal.returns
returns c =
    let a = c.args in
    delivered_whole a.s a.a _ c.share_of-share.ensures (tables a.head.now a.loans.now a.chunks.now a.index.now a.regions.now) _ a.o _ _ _ c.deliver-r.ensures c.delivered.ensures.0 c.delivered.ensures.1
