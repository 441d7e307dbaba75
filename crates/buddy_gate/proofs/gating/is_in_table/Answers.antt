use mathlib.Core.Path.{sym, ◌∙◌}
use Rattle.counter.proofs.Tables.{buddy_yes}
use Rattle.store_rules.proofs.Holders.{holder}
use Rattle.buddy_rules.specs.Tables.{tables}
use Rattle.buddy_gate.proofs.Gates.{lent_yes, lent_no}
use Rattle.buddy_gate.proofs.gating.is_in_table.Goals as goal

pub lengths_fit-fit-requires : goal.lengths_fit-fit-requires
lengths_fit-fit-requires c =
    buddy_yes c.args.s (sym c.in_table.ensures ∙ c.if-in_table.true)

pub returns-then-in_table : goal.returns-then-in_table
returns-then-in_table c =
    let a = c.args in
    lent_yes a.s (tables a.head.now a.loans.now a.chunks.now a.index.now a.tree.now) a.share _ _ (sym c.in_table.ensures ∙ c.if-in_table.true) c.heap_in_table.ensures c.lengths_fit-fit.ensures

pub returns-else-in_table : goal.returns-else-in_table
returns-else-in_table c =
    let a = c.args in
    lent_no a.s (tables a.head.now a.loans.now a.chunks.now a.index.now a.tree.now) (holder a.s.store a.share) (sym c.in_table.ensures ∙ c.if-in_table.false)
