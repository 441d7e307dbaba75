use mathlib.Core.Bool.{true}
use native.Mathlib.Omega.{arith}
use Rattle.store_rules.proofs.Holders.{holder}
use Rattle.freelist.proofs.Returning.{let_go_done, releases_now, taken_in}
use Rattle.freelist.proofs.carries.take_in.Goals as goal

pub take_back-requires : goal.take_back-requires
take_back-requires c = record { backs = c.requires.backs; strikes = c.requires.strikes }

pub release-f-requires : goal.release-f-requires
release-f-requires c =
    let a = c.args in
    (releases_now a.s (holder a.s.store a.share) a.b a.at a.loans.now a.chunks.now a.regions.now a.index.now _ _ _ c.take_back.ensures a.share.objects a.list.now c.requires.releases).0

pub settle-requires : goal.settle-requires
settle-requires c =
    let a = c.args in
    let few = (releases_now a.s (holder a.s.store a.share) a.b a.at a.loans.now a.chunks.now a.regions.now a.index.now _ _ _ c.take_back.ensures a.share.objects a.list.now c.requires.releases).1 in
    omega (arith, few, c.release-f.ensures.count_value)

pub returns : goal.returns
returns c =
    let a = c.args in
    let e = c.release-f.ensures in
    taken_in a.s (holder a.s.store a.share) a.b a.at a.loans.now a.chunks.now a.regions.now a.index.now _ _ _ c.take_back.ensures a.list.now _ _ _ _ _
    (let_go_done a.s a.share true _ _ a.list.now _ _ _ _ _ _ _ e.count_value e.bytes_value e.regions_after e.list_after c.settle.ensures.0 c.settle.ensures.1)
