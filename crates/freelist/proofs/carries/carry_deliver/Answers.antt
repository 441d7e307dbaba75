use Rattle.std.proofs.Common.{sym, ap, subst, ◌∙◌}
use Rattle.std.specs.Prelude.{Result}
use Rattle.counter.specs.declared.refusal.Refusal.{Refusal}
use Rattle.store_rules.proofs.Holders.{holding}
use Rattle.freelist_rules.specs.Tables.{tables}
use Rattle.freelist_outcomes.specs.Deliver.{carry_deliver}
use Rattle.freelist.specs.Deliveries.{delivery_of}
use Rattle.freelist.specs.Ready.{DeliverReady}
use Rattle.freelist.specs.declared.plans.Delivery.{Delivery}
use Rattle.freelist.proofs.Arriving.{refused_done}
use Rattle.freelist.proofs.carries.carry_deliver.Goals as goal

pub carry_coming-requires : goal.carry_coming-requires
carry_coming-requires c =
    let a = c.args in
    subst (λ (x : Result Delivery Refusal). DeliverReady a.s (tables a.head.now a.loans.now a.chunks.now a.index.now a.regions.now) x) c.in-Ok.is c.requires

pub returns-in-Err : goal.returns-in-Err
returns-in-Err c =
    let a = c.args in
    refused_done a.s a.share a.order (tables a.head.now a.loans.now a.chunks.now a.index.now a.regions.now) (delivery_of a.plan) _ _ _ _ (ap delivery_of c.in-Err.is) c.refuse_delivery.ensures.0 c.refuse_delivery.ensures.1 c.refuse_delivery.ensures.2

pub returns-in-Ok : goal.returns-in-Ok
returns-in-Ok c =
    let a = c.args in
    c.carry_coming.ensures ∙ ap (λ (x : Result Delivery Refusal). carry_deliver a.s (holding a.s.store a.share a.order) (tables a.head.now a.loans.now a.chunks.now a.index.now a.regions.now) (delivery_of x)) (sym c.in-Ok.is)
