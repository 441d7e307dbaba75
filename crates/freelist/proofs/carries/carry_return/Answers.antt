use mathlib.Core.Path.{refl, subst}
use Rattle.store_rules.proofs.Holders.{holder}
use Rattle.freelist_rules.specs.Tables.{tables}
use Rattle.freelist.specs.Ready.{ReturnReady}
use Rattle.freelist.proofs.Returning.{return_refused, return_taken, takes_few, with_head}
use Rattle.freelist.proofs.carries.carry_return.Goals as goal

pub take_in-requires : goal.take_in-requires
take_in-requires c =
    let a = c.args in
    let t = tables a.head.now a.loans.now a.chunks.now a.index.now a.regions.now in
    takes_few a.s a.share.objects a.b _ t a.list.now (subst (ReturnReady a.s a.share.objects a.b t a.list.now) c.in-Ok.is c.requires)

pub returns-in-Err : goal.returns-in-Err
returns-in-Err c =
    let a = c.args in
    return_refused a.s a.share (tables a.head.now a.loans.now a.chunks.now a.index.now a.regions.now) a.list.now a.b a.plan _ _ _ _ c.in-Err.is refl c.refuse_return.ensures.0 c.refuse_return.ensures.1

pub returns-in-Ok : goal.returns-in-Ok
returns-in-Ok c =
    let a = c.args in
    return_taken a.s a.share (tables a.head.now a.loans.now a.chunks.now a.index.now a.regions.now) a.list.now a.b a.plan _ _ _ c.in-Ok.is refl
    (with_head a.s (holder a.s.store a.share) a.b _ _ _ a.head.now a.loans.now a.chunks.now a.index.now a.regions.now a.list.now _ _ _ _ _ c.take_in.ensures)
