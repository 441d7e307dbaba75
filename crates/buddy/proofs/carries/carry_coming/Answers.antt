use mathlib.Core.Path.{sym, ap, subst, ◌∙◌}
use Rattle.std.specs.Prelude.{Ok}
use Rattle.store_rules.proofs.Holders.{holding}
use Rattle.store.specs.Comings.{coming_of}
use Rattle.store.specs.declared.comings.Coming.{Coming}
use Rattle.buddy_rules.specs.Tables.{tables}
use Rattle.buddy_outcomes.specs.Deliver.{carry_deliver}
use Rattle.buddy.specs.Ready.{ComingReady}
use Rattle.buddy.proofs.Carried.{deliver_kept, lost_beside}
use Rattle.buddy.proofs.carries.carry_coming.Goals as goal

pub keep_chunk-requires : goal.keep_chunk-requires
keep_chunk-requires c =
    let a = c.args in
    subst (ComingReady a.s (tables a.head.now a.loans.now a.chunks.now a.index.now a.tree.now) a.b) c.in-Keep.is c.requires

pub lose-requires : goal.lose-requires
lose-requires c =
    let a = c.args in
    subst (ComingReady a.s (tables a.head.now a.loans.now a.chunks.now a.index.now a.tree.now) a.b) c.in-Lose.is c.requires

pub returns-in-Keep : goal.returns-in-Keep
returns-in-Keep c =
    let a = c.args in
    let e = c.in-Keep.is in
    deliver_kept a.s a.share a.order (tables a.head.now a.loans.now a.chunks.now a.index.now a.tree.now) _ _ _ (c.keep_chunk.ensures a.order) ∙ ap (λ (x : Coming). carry_deliver a.s (holding a.s.store a.share a.order) (tables a.head.now a.loans.now a.chunks.now a.index.now a.tree.now) (coming_of (Ok x))) (sym e)

pub returns-in-Lose : goal.returns-in-Lose
returns-in-Lose c =
    let a = c.args in
    let e = c.in-Lose.is in
    lost_beside a.s a.head.now a.loans.now a.chunks.now a.index.now a.tree.now _ a.share a.order (holding a.s.store a.share a.order) _ _ _ _ _ _ _ (c.lose.ensures a.order) ∙ ap (λ (x : Coming). carry_deliver a.s (holding a.s.store a.share a.order) (tables a.head.now a.loans.now a.chunks.now a.index.now a.tree.now) (coming_of (Ok x))) (sym e)
