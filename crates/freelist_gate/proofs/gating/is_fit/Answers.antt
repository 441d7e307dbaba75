use mathlib.Core.Path.{sym, ◌∙◌}
use Rattle.counter.proofs.Tables.{free_list_yes}
use Rattle.freelist_rules.specs.Tables.{tables}
use Rattle.freelist_gate.proofs.Gates.{fit_yes, fit_no}
use Rattle.freelist_gate.proofs.gating.is_fit.Goals as goal

pub lengths_fit-requires : goal.lengths_fit-requires
lengths_fit-requires c =
    free_list_yes c.args.s (sym c.in_table.ensures ∙ c.if-in_table.true)

pub returns-then-in_table : goal.returns-then-in_table
returns-then-in_table c =
    let a = c.args in
    fit_yes a.s (tables a.head.now a.loans.now a.chunks.now a.index.now a.regions.now) _ (sym c.in_table.ensures ∙ c.if-in_table.true) c.lengths_fit.ensures

pub returns-else-in_table : goal.returns-else-in_table
returns-else-in_table c =
    let a = c.args in
    fit_no a.s (tables a.head.now a.loans.now a.chunks.now a.index.now a.regions.now) (sym c.in_table.ensures ∙ c.if-in_table.false)
