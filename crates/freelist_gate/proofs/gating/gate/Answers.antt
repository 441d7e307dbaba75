use mathlib.Core.Path.{sym, ap, ◌∙◌}
use mathlib.Core.Bool.{Bool, ◌&&◌}
use Rattle.lists.proofs.Bools.{not_yes, not_no, and_left}
use Rattle.store_rules.proofs.Holders.{holder}
use Rattle.freelist_rules.specs.Tables.{tables}
use Rattle.freelist_gate.proofs.Gates.{gate_lent, gate_closed, gate_open}
use Rattle.freelist_outcomes.proofs.Passing.{lent_in_lem}
use Rattle.freelist_gate.proofs.gating.gate.Goals as goal

pub returns-then-not-lent-list : goal.returns-then-not-lent-list
returns-then-not-lent-list c =
    let a = c.args in
    gate_lent a.s (holder a.s.store a.share) (tables a.head.now a.loans.now a.chunks.now a.index.now a.regions.now) a.list (ap (λ (b : Bool). b && a.list) (sym c.is_in_table-lent.ensures) ∙ c.if-not-lent-list.true)

pub returns-then-not-share : goal.returns-then-not-share
returns-then-not-share c =
    let a = c.args in
    gate_closed a.s a.share (tables a.head.now a.loans.now a.chunks.now a.index.now a.regions.now) a.list (ap (λ (b : Bool). b && a.list) (sym c.is_in_table-lent.ensures) ∙ c.if-not-lent-list.false) (not_yes _ c.if-not-share.true)

pub invariant_of-view : goal.invariant_of-view
invariant_of-view c =
    let a = c.args in
    let fit = lent_in_lem a.s (holder a.s.store a.share) (tables a.head.now a.loans.now a.chunks.now a.index.now a.regions.now) (sym c.is_in_table-lent.ensures ∙ and_left _ a.list c.if-not-lent-list.false) in
    record { in_table = fit.0 }

pub gate_store-requires : goal.gate_store-requires
gate_store-requires c =
    let a = c.args in
    (lent_in_lem a.s (holder a.s.store a.share) (tables a.head.now a.loans.now a.chunks.now a.index.now a.regions.now) (sym c.is_in_table-lent.ensures ∙ and_left _ a.list c.if-not-lent-list.false)).1

pub returns : goal.returns
returns c =
    let a = c.args in
    gate_open a.s a.share (tables a.head.now a.loans.now a.chunks.now a.index.now a.regions.now) a.list _ (ap (λ (b : Bool). b && a.list) (sym c.is_in_table-lent.ensures) ∙ c.if-not-lent-list.false) (not_no _ c.if-not-share.false) c.gate_store.ensures
