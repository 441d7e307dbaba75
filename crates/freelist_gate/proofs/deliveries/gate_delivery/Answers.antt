use mathlib.Core.Path.{sym, ◌∙◌}
use Rattle.store_rules.proofs.Holders.{holder}
use Rattle.freelist_rules.specs.Tables.{tables}
use Rattle.freelist_outcomes.proofs.Passing.{lent_in_lem}
use Rattle.freelist_gate.proofs.Arrivals.{delivery_lent, delivery_order, delivery_kept, open_for_lem}
use Rattle.freelist_gate.proofs.deliveries.gate_delivery.Goals as goal

pub returns-then-not-is_in_table : goal.returns-then-not-is_in_table
returns-then-not-is_in_table c = let a = c.args in record { result_value = delivery_lent a.s a.share a.order (tables a.head.now a.loans.now a.chunks.now a.index.now a.regions.now) (sym c.is_in_table.ensures ∙ c.if-not-is_in_table.true); bought_for = λ k e. tt }

pub returns-then-not-is_open_for : goal.returns-then-not-is_open_for
returns-then-not-is_open_for c = let a = c.args in record { result_value = delivery_order a.s a.share a.order (tables a.head.now a.loans.now a.chunks.now a.index.now a.regions.now) (sym c.is_in_table.ensures ∙ c.if-not-is_in_table.false) (sym c.is_open_for.ensures ∙ c.if-not-is_open_for.true); bought_for = λ k e. tt }

pub invariant_of-view : goal.invariant_of-view
invariant_of-view c =
    let a = c.args in
    let fit = lent_in_lem a.s (holder a.s.store a.share) (tables a.head.now a.loans.now a.chunks.now a.index.now a.regions.now) (sym c.is_in_table.ensures ∙ c.if-not-is_in_table.false) in
    record { in_table = fit.0 }

pub gate_kept-requires : goal.gate_kept-requires
gate_kept-requires c =
    let a = c.args in
    (lent_in_lem a.s (holder a.s.store a.share) (tables a.head.now a.loans.now a.chunks.now a.index.now a.regions.now) (sym c.is_in_table.ensures ∙ c.if-not-is_in_table.false)).1

pub returns-in-Some : goal.returns-in-Some
returns-in-Some c = let a = c.args in record { result_value = delivery_kept a.s a.share a.order (tables a.head.now a.loans.now a.chunks.now a.index.now a.regions.now) _ _ (sym c.is_in_table.ensures ∙ c.if-not-is_in_table.false) (sym c.is_open_for.ensures ∙ c.if-not-is_open_for.false) c.in-Some.is c.gate_kept.ensures.result_value; bought_for = λ k e. open_for_lem a.s k (tables a.head.now a.loans.now a.chunks.now a.index.now a.regions.now) a.order _ c.gate_kept.result c.in-Some.is c.gate_kept.ensures.bought_for e }
