use mathlib.Core.Path.{sym, ap, ◌∙◌}
use mathlib.Core.Bool.{Bool, ◌&&◌}
use Rattle.lists.proofs.Bools.{not_yes, not_no, and_left}
use Rattle.store_rules.proofs.Holders.{holder}
use Rattle.buddy_rules.specs.Tables.{tables}
use Rattle.buddy_gate.proofs.Gates.{gate_lent, gate_order, gate_rest}
use Rattle.buddy_outcomes.proofs.Passing.{lent_in_lem}
use Rattle.buddy_gate.proofs.gating.gate.Goals as goal

pub returns-then-not-lent-list : goal.returns-then-not-lent-list
returns-then-not-lent-list c =
    let a = c.args in
    gate_lent a.s a.share (tables a.head.now a.loans.now a.chunks.now a.index.now a.tree.now) a.list (ap (λ (b : Bool). b && a.list) (sym c.is_in_table-lent.ensures) ∙ c.if-not-lent-list.true)

pub returns-then-not-share : goal.returns-then-not-share
returns-then-not-share c =
    let a = c.args in
    gate_order a.s a.share (tables a.head.now a.loans.now a.chunks.now a.index.now a.tree.now) a.list (ap (λ (b : Bool). b && a.list) (sym c.is_in_table-lent.ensures) ∙ c.if-not-lent-list.false) (not_yes _ c.if-not-share.true)

pub invariant_of-v : goal.invariant_of-v
invariant_of-v c =
    let a = c.args in
    let fit = lent_in_lem a.s (holder a.s.store a.share) (tables a.head.now a.loans.now a.chunks.now a.index.now a.tree.now) (sym c.is_in_table-lent.ensures ∙ and_left _ a.list c.if-not-lent-list.false) in
    record { in_table = fit.settings }

pub gate_store-requires : goal.gate_store-requires
gate_store-requires c =
    let a = c.args in
    (lent_in_lem a.s (holder a.s.store a.share) (tables a.head.now a.loans.now a.chunks.now a.index.now a.tree.now) (sym c.is_in_table-lent.ensures ∙ and_left _ a.list c.if-not-lent-list.false)).lengths

pub returns : goal.returns
returns c =
    let a = c.args in
    gate_rest a.s a.share (tables a.head.now a.loans.now a.chunks.now a.index.now a.tree.now) a.list _ (ap (λ (b : Bool). b && a.list) (sym c.is_in_table-lent.ensures) ∙ c.if-not-lent-list.false) (not_no _ c.if-not-share.false) c.gate_store.ensures
