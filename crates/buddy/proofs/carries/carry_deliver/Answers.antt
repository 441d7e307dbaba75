use mathlib.Core.Path.{sym, ap, subst, ◌∙◌}
use Rattle.store_rules.proofs.Holders.{holding}
use Rattle.buddy_rules.specs.Tables.{tables}
use Rattle.buddy_outcomes.specs.Deliver.{carry_deliver}
use Rattle.buddy.specs.Deliveries.{delivery_of}
use Rattle.buddy.specs.Ready.{DeliverReady}
use Rattle.std.specs.Prelude.{Result}
use Rattle.counter.specs.declared.refusal.Refusal.{Refusal}
use Rattle.store.specs.declared.comings.Coming.{Coming}
use Rattle.buddy_decide.specs.declared.plans.Buying.{Buying}
use Rattle.buddy.proofs.Carried.{deliver_refused}
use Rattle.buddy.proofs.carries.carry_deliver.Goals as goal

pub carry_coming-requires : goal.carry_coming-requires
carry_coming-requires c =
    let a = c.args in
    subst (DeliverReady a.s (tables a.head.now a.loans.now a.chunks.now a.index.now a.tree.now)) c.in-Ok.is c.requires

pub returns-in-Err : goal.returns-in-Err
returns-in-Err c =
    let a = c.args in
    deliver_refused a.s a.share a.order (tables a.head.now a.loans.now a.chunks.now a.index.now a.tree.now) _ _ _ _ c.refuse_delivery.ensures.0 c.refuse_delivery.ensures.1 c.refuse_delivery.ensures.2 ∙ ap (λ (d : Result (Coming × Buying) Refusal). carry_deliver a.s (holding a.s.store a.share a.order) (tables a.head.now a.loans.now a.chunks.now a.index.now a.tree.now) (delivery_of d)) (sym c.in-Err.is)

pub returns-in-Ok : goal.returns-in-Ok
returns-in-Ok c =
    let a = c.args in
    c.carry_coming.ensures ∙ ap (λ (d : Result (Coming × Buying) Refusal). carry_deliver a.s (holding a.s.store a.share a.order) (tables a.head.now a.loans.now a.chunks.now a.index.now a.tree.now) (delivery_of d)) (sym c.in-Ok.is)
