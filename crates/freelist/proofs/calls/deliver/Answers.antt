use mathlib.Core.Path.{◌∙◌}
use Rattle.store_rules.proofs.Holders.{holding}
use Rattle.freelist_rules.specs.Tables.{tables}
use Rattle.freelist.proofs.Arriving.{deliver_ready, deliver_done}
use Rattle.freelist.proofs.calls.deliver.Goals as goal

pub carry_deliver-requires : goal.carry_deliver-requires
carry_deliver-requires c =
    let a = c.args in
    deliver_ready a.s (holding a.s.store a.share a.order) a.o (tables a.head.now a.loans.now a.chunks.now a.index.now a.regions.now) c.plan_deliver-plan.result c.plan_deliver-plan.ensures.result_value c.plan_deliver-plan.ensures.delivers

pub returns : goal.returns
returns c =
    let a = c.args in
    c.carry_deliver.ensures ∙ deliver_done a.s (holding a.s.store a.share a.order) a.o (tables a.head.now a.loans.now a.chunks.now a.index.now a.regions.now) _ c.plan_deliver-plan.ensures.result_value
