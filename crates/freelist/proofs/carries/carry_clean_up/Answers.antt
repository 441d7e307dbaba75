use mathlib.Core.Path.{refl, subst}
use mathlib.Core.Bool.{false}
use native.Mathlib.Omega.{arith}
use Rattle.counter.specs.Gate.{Gate}
use Rattle.store_rules.proofs.Holders.{holder}
use Rattle.freelist_rules.specs.Tables.{tables}
use Rattle.freelist.specs.Ready.{CleanUpReady}
use Rattle.freelist.proofs.Returning.{let_go_done, releases_few, clean_refused, clean_went, beside}
use Rattle.freelist.proofs.carries.carry_clean_up.Goals as goal

pub release-f-requires : goal.release-f-requires
release-f-requires c =
    let a = c.args in
    (releases_few a.s a.share.objects false (tables a.head.now a.loans.now a.chunks.now a.index.now a.regions.now) a.list.now (subst (λ (p : Gate). CleanUpReady a.s a.share.objects (tables a.head.now a.loans.now a.chunks.now a.index.now a.regions.now) a.list.now p) c.in-Ok.is c.requires)).0

pub settle-requires : goal.settle-requires
settle-requires c =
    let a = c.args in
    let few = (releases_few a.s a.share.objects false (tables a.head.now a.loans.now a.chunks.now a.index.now a.regions.now) a.list.now (subst (λ (p : Gate). CleanUpReady a.s a.share.objects (tables a.head.now a.loans.now a.chunks.now a.index.now a.regions.now) a.list.now p) c.in-Ok.is c.requires)).1 in
    omega (arith, few, c.release-f.ensures.count_value)

pub returns-in-Err : goal.returns-in-Err
returns-in-Err c =
    let a = c.args in
    clean_refused a.s a.share (tables a.head.now a.loans.now a.chunks.now a.index.now a.regions.now) a.list.now a.plan _ _ _ _ c.in-Err.is refl c.refuse_return.ensures.0 c.refuse_return.ensures.1

pub returns-in-Ok : goal.returns-in-Ok
returns-in-Ok c =
    let a = c.args in
    let q = c.release-f.ensures in
    clean_went a.s a.share (tables a.head.now a.loans.now a.chunks.now a.index.now a.regions.now) a.list.now a.plan _ _ c.in-Ok.is refl
    (beside a.s (holder a.s.store a.share) false _ _ a.chunks.now a.regions.now a.list.now _ _ _
    (let_go_done a.s a.share false a.chunks.now a.regions.now a.list.now _ _ _ _ _ _ _ q.count_value q.bytes_value q.regions_after q.list_after c.settle.ensures.0 c.settle.ensures.1)
    a.head.now a.loans.now a.index.now)
