use Rattle.freelist_rules.specs.Tables.{tables}
use Rattle.freelist.proofs.Wholes.{asked_whole}
use Rattle.freelist.proofs.asks.ask.Goals as goal

pub returns : goal.returns
returns c =
    let a = c.args in
    asked_whole a.s a.a _ c.share_of-share.ensures (tables a.head.now a.loans.now a.chunks.now a.index.now a.regions.now) _ a.size a.mask _ _ _ c.ask-answer.ensures c.asked.ensures.0 c.asked.ensures.1
