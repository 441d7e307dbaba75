use mathlib.Core.Path.{◌∙◌}
use Rattle.buddy_rules.specs.Tables.{tables}
use Rattle.buddy.proofs.Fresh.{set_up_ready, set_up_called}
use Rattle.buddy.proofs.set_ups.set_up.Goals as goal

pub carry_set_up-requires : goal.carry_set_up-requires
carry_set_up-requires c =
    let a = c.args in
    set_up_ready a.s (tables a.head.now a.loans.now a.chunks.now a.index.now a.tree.now) c.plan_set_up-plan.result c.plan_set_up-plan.ensures

pub returns : goal.returns
returns c =
    let a = c.args in
    c.carry_set_up.ensures ∙ set_up_called a.s (tables a.head.now a.loans.now a.chunks.now a.index.now a.tree.now) _ c.plan_set_up-plan.ensures
