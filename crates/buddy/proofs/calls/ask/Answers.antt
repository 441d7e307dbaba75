use mathlib.Core.Path.{◌∙◌}
use Rattle.store_rules.proofs.Holders.{holder}
use Rattle.buddy_rules.specs.Tables.{tables}
use Rattle.buddy.proofs.Carried.{ask_called}
use Rattle.buddy.proofs.Readied.{ask_ready}
use Rattle.buddy.proofs.calls.ask.Goals as goal

pub carry_ask-requires : goal.carry_ask-requires
carry_ask-requires c =
    let a = c.args in
    ask_ready a.s (holder a.s.store a.share) a.size a.mask (tables a.head.now a.loans.now a.chunks.now a.index.now a.tree.now) c.plan_ask-plan.result c.plan_ask-plan.ensures.result_value c.plan_ask-plan.ensures.planned

pub returns : goal.returns
returns c =
    let a = c.args in
    c.carry_ask.ensures (holder a.s.store a.share) a.size a.mask a.chunks.now c.plan_ask-plan.ensures.planned ∙ ask_called a.s (holder a.s.store a.share) a.size a.mask (tables a.head.now a.loans.now a.chunks.now a.index.now a.tree.now) _ c.plan_ask-plan.ensures.result_value
