use mathlib.Core.Path.{ap}
use Rattle.counter.specs.Paper.{release_said}
use Rattle.buddy_rules.specs.Tables.{tables}
use Rattle.buddy.proofs.Wholes.{released_whole}
use Rattle.buddy.proofs.returns.return_block.Goals as goal

pub returns : goal.returns
returns c =
    let a = c.args in
    released_whole a.s a.a (tables a.head.now a.loans.now a.chunks.now a.index.now a.tree.now) _ _ c.share_of-share.ensures _ _ _ (ap release_said c.released.ensures.1) a.b a.list.now _ _ c.return_block-r.ensures c.released.ensures.0
