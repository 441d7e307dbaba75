use mathlib.Core.List.{[]}
use Rattle.buddy.proofs.Carried.{lost_done}
use Rattle.buddy.proofs.carries.lose.Goals as goal

pub grow-requires : goal.grow-requires
grow-requires c =
    let a = c.args in
    let pre = c.requires in
    pre.1

pub returns : goal.returns
returns c =
    let a = c.args in
    let pre = c.requires in
    λ order. lost_done a.s a.head.now [] [] [] a.tree.now a.k a.share order a.levels pre.0 _ _ c.grow.ensures _ _ _ _ _ _ c.lose_order.ensures.0 c.lose_order.ensures.1 c.lose_order.ensures.2
