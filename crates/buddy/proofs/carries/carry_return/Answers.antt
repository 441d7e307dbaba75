use mathlib.Core.Path.{sym, ap, subst, ◌∙◌}
use native.Mathlib.Omega.{arith}
use Rattle.std.specs.Prelude.{ℕ, Result}
use Rattle.counter.specs.declared.refusal.Refusal.{Refusal}
use Rattle.store_rules.proofs.Holders.{holder}
use Rattle.returning.specs.Backs.{back_of}
use Rattle.buddy_rules.specs.Tables.{tables}
use Rattle.buddy_outcomes.specs.Return.{carry_return}
use Rattle.buddy.specs.Ready.{ReturnReady}
use Rattle.buddy.proofs.Carried.{return_refused, return_room, return_done}
use Rattle.buddy.proofs.carries.carry_return.Goals as goal

pub take_back-f-requires : goal.take_back-f-requires
take_back-f-requires c =
    let a = c.args in
    let pre = c.requires in
    (subst (ReturnReady a.s a.share a.b (tables a.head.now a.loans.now a.chunks.now a.index.now a.tree.now)) c.in-Ok.is pre).0

pub settle-requires : goal.settle-requires
settle-requires c =
    let a = c.args in
    let pre = c.requires in
    let r = subst (ReturnReady a.s a.share a.b (tables a.head.now a.loans.now a.chunks.now a.index.now a.tree.now)) c.in-Ok.is pre in
    return_room a.s a.share a.b (tables a.head.now a.loans.now a.chunks.now a.index.now a.tree.now) a.list.now _ _ c.take_back-f.ensures.value (omega arith) r.1

pub returns-in-Err : goal.returns-in-Err
returns-in-Err c =
    let a = c.args in
    let e = c.in-Err.is in
    return_refused a.s a.share a.b (tables a.head.now a.loans.now a.chunks.now a.index.now a.tree.now) a.list.now _ _ _ c.refuse_return.ensures.0 c.refuse_return.ensures.1 ∙ ap (λ (x : Result ℕ Refusal). carry_return a.s (holder a.s.store a.share) a.b (tables a.head.now a.loans.now a.chunks.now a.index.now a.tree.now) a.list.now (back_of x)) (sym e)

pub returns-in-Ok : goal.returns-in-Ok
returns-in-Ok c =
    let a = c.args in
    let e = c.in-Ok.is in
    return_done a.s a.share a.b (tables a.head.now a.loans.now a.chunks.now a.index.now a.tree.now) a.list.now _ _ c.take_back-f.ensures.value _ _ _ _ c.take_back-f.ensures.tree_after c.take_back-f.ensures.list_after c.settle.ensures.0 c.settle.ensures.1 ∙ ap (λ (x : Result ℕ Refusal). carry_return a.s (holder a.s.store a.share) a.b (tables a.head.now a.loans.now a.chunks.now a.index.now a.tree.now) a.list.now (back_of x)) (sym e)
