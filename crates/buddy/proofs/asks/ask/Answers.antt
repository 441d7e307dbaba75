use mathlib.Core.Path.{ap}
use Rattle.counter.specs.Paper.{ask_said}
use Rattle.buddy_rules.specs.Tables.{tables}
use Rattle.buddy.proofs.Wholes.{asked_whole}
use Rattle.buddy.proofs.asks.ask.Goals as goal

pub returns : goal.returns
returns c =
    let a = c.args in
    asked_whole a.s a.a (tables a.head.now a.loans.now a.chunks.now a.index.now a.tree.now) _ _ c.share_of-share.ensures _ _ _ (ap ask_said c.asked.ensures.1) a.size a.mask c.ask-answer.ensures c.asked.ensures.0
