use mathlib.Core.Path.{sym, ◌∙◌}
use Rattle.counter.proofs.Tables.{buddy_yes}
use Rattle.buddy_rules.specs.Tables.{tables}
use Rattle.buddy_gate.proofs.Gates.{fit_in, fit_out}
use Rattle.buddy_gate.proofs.gating.is_fit.Goals as goal

pub lengths_fit-requires : goal.lengths_fit-requires
lengths_fit-requires c = buddy_yes c.args.s (sym c.in_table.ensures ∙ c.if-in_table.true)

pub returns-then-in_table : goal.returns-then-in_table
returns-then-in_table c =
    let a = c.args in
    fit_in a.s (tables a.head.now a.loans.now a.chunks.now a.index.now a.tree.now) _ _ c.if-in_table.true c.in_table.ensures c.lengths_fit.ensures

pub returns-else-in_table : goal.returns-else-in_table
returns-else-in_table c = let a = c.args in fit_out a.s (tables a.head.now a.loans.now a.chunks.now a.index.now a.tree.now) _ c.if-in_table.false c.in_table.ensures
