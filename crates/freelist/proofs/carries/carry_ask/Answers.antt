use Rattle.std.proofs.Common.{ap, subst, ◌∙◌}
use Rattle.std.specs.Prelude.{Result, Ok}
use Rattle.counter.specs.declared.refusal.Refusal.{Refusal}
use Rattle.freelist_rules.specs.Tables.{tables}
use Rattle.freelist_decide.specs.Plans.{plan_of, Planned}
use Rattle.freelist_decide.specs.declared.deciding.Plan.{Plan}
use Rattle.freelist.specs.Ready.{AskReady}
use Rattle.freelist.proofs.Asking.{ask_refused, ask_taken, ask_ordered}
use Rattle.freelist.proofs.carries.carry_ask.Goals as goal

pub lend-l-requires : goal.lend-l-requires
lend-l-requires c =
    let a = c.args in
    let is = c.in-Ok.is ∙ ap (λ (p : Plan). Ok p) c.in-Take.is in
    subst (λ (p : Result Plan Refusal). AskReady a.s (tables a.head.now a.loans.now a.chunks.now a.index.now a.regions.now) p) is c.requires

pub returns-in-Err : goal.returns-in-Err
returns-in-Err c =
    let a = c.args in
    λ account size mask k. ask_refused a.s size mask a.head.now a.loans.now a.chunks.now a.regions.now a.index.now (plan_of a.plan) account _ _ (ap plan_of c.in-Err.is) c.refuse_ask.ensures

pub returns-in-Take : goal.returns-in-Take
returns-in-Take c =
    let a = c.args in
    let is = c.in-Ok.is ∙ ap (λ (p : Plan). Ok p) c.in-Take.is in
    λ account size mask k.
    let e = subst (λ (p : Result Plan Refusal). Planned a.s size mask (tables a.head.now a.loans.now a.chunks.now a.index.now a.regions.now) p) is k in
    ask_taken a.s size mask a.head.now a.loans.now a.chunks.now a.regions.now a.index.now (plan_of a.plan) account _ _ _ _ _ _ _ _ (ap plan_of is) e.0 e.1 c.lend-l.ensures.value c.lend-l.ensures.regions_after c.answer_block.ensures

pub returns-in-Buy : goal.returns-in-Buy
returns-in-Buy c =
    let a = c.args in
    let is = c.in-Ok.is ∙ ap (λ (p : Plan). Ok p) c.in-Buy.is in
    λ account size mask k. ask_ordered a.s size mask a.head.now a.loans.now a.chunks.now a.regions.now a.index.now (plan_of a.plan) account _ _ _ (ap plan_of is) c.raise_size.ensures c.answer_order.ensures
