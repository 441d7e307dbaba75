use mathlib.Core.Path.{refl, ap, subst}
use Rattle.counter.specs.Gate.{verdict_of}
use Rattle.counter.specs.Paper.{refusal_of}
use Rattle.freelist_rules.specs.Tables.{tables}
use Rattle.freelist.specs.Ready.{SetUpReady}
use Rattle.freelist.proofs.Fresh.{refused_done, fresh_done}
use Rattle.freelist.proofs.carries.carry_set_up.Goals as goal

pub fresh-requires : goal.fresh-requires
fresh-requires c =
    let a = c.args in
    subst (SetUpReady a.s (tables a.head.now a.loans.now a.chunks.now a.index.now a.regions.now)) c.in-Ok.is c.requires

pub returns-in-Err : goal.returns-in-Err
returns-in-Err c =
    let a = c.args in
    refused_done a.s (tables a.head.now a.loans.now a.chunks.now a.index.now a.regions.now) (verdict_of a.plan) _ _ (ap verdict_of c.in-Err.is) (ap refusal_of c.into.ensures)

pub returns-in-Ok : goal.returns-in-Ok
returns-in-Ok c =
    let a = c.args in
    fresh_done a.s (tables a.head.now a.loans.now a.chunks.now a.index.now a.regions.now) (verdict_of a.plan) _ _ (ap verdict_of c.in-Ok.is) c.fresh.ensures refl
