use mathlib.Core.Path.{ap, subst}
use Rattle.freelist_rules.specs.Tables.{tables}
use Rattle.std.specs.Prelude.{Ok}
use Rattle.store.specs.Comings.{coming_of}
use Rattle.store.specs.declared.comings.Coming.{Coming}
use Rattle.freelist.specs.Ready.{ComingReady}
use Rattle.freelist.proofs.Arriving.{went_done, lost_done}
use Rattle.freelist.proofs.carries.carry_coming.Goals as goal

pub keep_chunk-requires : goal.keep_chunk-requires
keep_chunk-requires c =
    let a = c.args in
    subst (ComingReady a.s (tables a.head.now a.loans.now a.chunks.now a.index.now a.regions.now) a.b) c.in-Keep.is c.requires

pub returns-in-Keep : goal.returns-in-Keep
returns-in-Keep c =
    let a = c.args in
    went_done a.s a.share a.order (tables a.head.now a.loans.now a.chunks.now a.index.now a.regions.now) (coming_of (Ok a.coming)) _ _ _ _ _ _ (ap (λ (x : Coming). coming_of (Ok x)) c.in-Keep.is) c.keep_chunk.ensures

pub returns-in-Lose : goal.returns-in-Lose
returns-in-Lose c =
    let a = c.args in
    lost_done a.s a.share a.order (tables a.head.now a.loans.now a.chunks.now a.index.now a.regions.now) (coming_of (Ok a.coming)) _ _ _ _ _ _ _ (ap (λ (x : Coming). coming_of (Ok x)) c.in-Lose.is) c.lose_order.ensures.0 c.lose_order.ensures.1 c.lose_order.ensures.2
