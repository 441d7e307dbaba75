use mathlib.Core.Path.{sym, ◌∙◌}
use Rattle.buddy_rules.specs.Tables.{tables}
use Rattle.buddy.proofs.Fresh.{set_up_go, set_up_shut}
use Rattle.buddy.proofs.plans.plan_set_up.Goals as goal

pub returns-then-is_fit : goal.returns-then-is_fit
returns-then-is_fit c = let a = c.args in set_up_go a.s (tables a.head.now a.loans.now a.chunks.now a.index.now a.tree.now) (sym c.is_fit.ensures ∙ c.if-is_fit.true)

pub returns : goal.returns
returns c = let a = c.args in set_up_shut a.s (tables a.head.now a.loans.now a.chunks.now a.index.now a.tree.now) (sym c.is_fit.ensures ∙ c.if-is_fit.false)
