use mathlib.Core.Path.{sym, ◌∙◌}
use Rattle.store_rules.proofs.Holders.{holding}
use Rattle.buddy_rules.specs.Tables.{tables}
use Rattle.buddy.proofs.Carried.{deliver_called}
use Rattle.buddy.proofs.Readied.{deliver_ready}
use Rattle.buddy.proofs.calls.deliver.Goals as goal

pub carry_deliver-requires : goal.carry_deliver-requires
carry_deliver-requires c =
    let a = c.args in
    let p = c.plan_deliver-plan in
    deliver_ready a.s (holding a.s.store a.share a.order) a.o (tables a.head.now a.loans.now a.chunks.now a.index.now a.tree.now) p.result (sym p.ensures.result_value) p.ensures.delivers

pub returns : goal.returns
returns c =
    let a = c.args in
    c.carry_deliver.ensures ∙ deliver_called a.s (holding a.s.store a.share a.order) a.o (tables a.head.now a.loans.now a.chunks.now a.index.now a.tree.now) _ c.plan_deliver-plan.ensures.result_value
