use mathlib.Core.Path.{sym, ◌∙◌}
use Rattle.freelist_rules.specs.Tables.{tables}
use Rattle.freelist.proofs.Fresh.{plan_fit, plan_unfit}
use Rattle.freelist.proofs.plans.plan_set_up.Goals as goal

pub returns-then-is_fit : goal.returns-then-is_fit
returns-then-is_fit c =
    let a = c.args in
    plan_fit a.s (tables a.head.now a.loans.now a.chunks.now a.index.now a.regions.now) (sym c.is_fit.ensures ∙ c.if-is_fit.true)

pub returns-else-is_fit : goal.returns-else-is_fit
returns-else-is_fit c =
    let a = c.args in
    plan_unfit a.s (tables a.head.now a.loans.now a.chunks.now a.index.now a.regions.now) (sym c.is_fit.ensures ∙ c.if-is_fit.false)
