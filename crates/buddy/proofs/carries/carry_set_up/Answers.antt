use mathlib.Core.Path.{sym, ap, subst, ◌∙◌}
use Rattle.counter.specs.Gate.{verdict_of}
use Rattle.counter.specs.Gate.{Gate}
use Rattle.buddy_rules.specs.Tables.{tables}
use Rattle.buddy_outcomes.specs.SetUp.{carry_set_up}
use Rattle.buddy.specs.Ready.{SetUpReady}
use Rattle.buddy.proofs.Fresh.{set_up_refused, set_up_done}
use Rattle.buddy.proofs.carries.carry_set_up.Goals as goal

pub fresh-requires : goal.fresh-requires
fresh-requires c =
    let a = c.args in
    subst (SetUpReady a.s (tables a.head.now a.loans.now a.chunks.now a.index.now a.tree.now)) c.in-Ok.is c.requires

pub returns-in-Err : goal.returns-in-Err
returns-in-Err c =
    let a = c.args in
    let t = tables a.head.now a.loans.now a.chunks.now a.index.now a.tree.now in
    set_up_refused a.s t _ ∙ ap (λ (g : Gate). carry_set_up a.s t (verdict_of g)) (sym c.in-Err.is)

pub returns-in-Ok : goal.returns-in-Ok
returns-in-Ok c =
    let a = c.args in
    let t = tables a.head.now a.loans.now a.chunks.now a.index.now a.tree.now in
    set_up_done a.s t _ c.fresh.ensures ∙ ap (λ (g : Gate). carry_set_up a.s t (verdict_of g)) (sym c.in-Ok.is)
