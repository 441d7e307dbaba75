use mathlib.Core.Path.{◌∙◌}
use Rattle.store_rules.proofs.Holders.{holder}
use Rattle.buddy_rules.specs.Tables.{tables}
use Rattle.buddy.proofs.Carried.{return_called}
use Rattle.buddy.proofs.Readied.{return_ready}
use Rattle.buddy.proofs.calls.return_block.Goals as goal

pub carry_return-requires : goal.carry_return-requires
carry_return-requires c =
    let a = c.args in
    return_ready a.s a.share a.b (tables a.head.now a.loans.now a.chunks.now a.index.now a.tree.now) a.list.now c.plan_return-plan.result c.plan_return-plan.ensures

pub returns : goal.returns
returns c =
    let a = c.args in
    c.carry_return.ensures ∙ return_called a.s (holder a.s.store a.share) a.b (tables a.head.now a.loans.now a.chunks.now a.index.now a.tree.now) a.list.now _ c.plan_return-plan.ensures
