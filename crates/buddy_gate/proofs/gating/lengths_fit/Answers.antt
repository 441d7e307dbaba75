use Rattle.buddy_rules.specs.Tables.{tables}
use Rattle.buddy_gate.proofs.Gates.{lengths_is}
use Rattle.buddy_gate.proofs.gating.lengths_fit.Goals as goal

pub returns : goal.returns
returns c =
    let a = c.args in
    lengths_is a.s (tables a.head.now a.loans.now a.chunks.now a.index.now a.tree.now) _ c.tree_words-room.ensures.value
