use mathlib.Core.Path.{ap}
use Rattle.counter.specs.Paper.{deliver_said}
use Rattle.buddy_rules.specs.Tables.{tables}
use Rattle.buddy.proofs.Wholes.{delivered_whole}
use Rattle.buddy.proofs.deliveries.deliver.Goals as goal

pub returns : goal.returns
returns c =
    let a = c.args in
    delivered_whole a.s a.a (tables a.head.now a.loans.now a.chunks.now a.index.now a.tree.now) _ _ c.share_of-share.ensures _ _ _ (ap deliver_said c.delivered.ensures.1) a.o _ _ c.deliver-r.ensures c.delivered.ensures.0
