use mathlib.Core.Path.{◌∙◌}
use Rattle.store_rules.proofs.Holders.{holder}
use Rattle.freelist_rules.specs.Tables.{tables}
use Rattle.freelist.proofs.Asking.{ask_ready, ask_done}
use Rattle.freelist.proofs.calls.ask.Goals as goal

pub carry_ask-requires : goal.carry_ask-requires
carry_ask-requires c =
    let a = c.args in
    ask_ready a.s (holder a.s.store a.share) a.size a.mask (tables a.head.now a.loans.now a.chunks.now a.index.now a.regions.now) c.plan_ask-plan.result c.plan_ask-plan.ensures.result_value c.plan_ask-plan.ensures.planned

pub returns : goal.returns
returns c =
    let a = c.args in
    c.carry_ask.ensures (holder a.s.store a.share) a.size a.mask c.plan_ask-plan.ensures.planned
    ∙ ask_done a.s (holder a.s.store a.share) a.size a.mask (tables a.head.now a.loans.now a.chunks.now a.index.now a.regions.now) _ c.plan_ask-plan.ensures.result_value
