use mathlib.Core.Path.{◌∙◌}
use Prim.Native.Nat.{◌≤◌}
use native.Mathlib.Omega.{arith}
use Rattle.counter.specs.Limits.{objects_most}
use Rattle.freelist_rules.specs.Tables.{tables}
use Rattle.freelist.proofs.Returning.{return_ready, return_done}
use Rattle.freelist.proofs.calls.return_block.Goals as goal

pub carry_return-requires : goal.carry_return-requires
carry_return-requires c =
    let a = c.args in
    let few : a.share.objects ≤ objects_most = omega arith in
    return_ready a.s a.share (tables a.head.now a.loans.now a.chunks.now a.index.now a.regions.now) a.list.now few a.b c.plan_return-plan.result c.plan_return-plan.ensures

pub returns : goal.returns
returns c =
    let a = c.args in
    c.carry_return.ensures ∙ return_done a.s a.share (tables a.head.now a.loans.now a.chunks.now a.index.now a.regions.now) a.list.now a.b c.plan_return-plan.result c.plan_return-plan.ensures
