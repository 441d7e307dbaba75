use mathlib.Core.Path.{◌∙◌}
use Prim.Native.Nat.{◌≤◌}
use native.Mathlib.Omega.{arith}
use Rattle.counter.specs.Limits.{objects_most}
use Rattle.freelist_rules.specs.Tables.{tables}
use Rattle.freelist.proofs.Returning.{clean_up_ready, clean_done}
use Rattle.freelist.proofs.calls.clean_up.Goals as goal

pub carry_clean_up-requires : goal.carry_clean_up-requires
carry_clean_up-requires c =
    let a = c.args in
    let few : a.share.objects ≤ objects_most = omega arith in
    clean_up_ready a.s a.share (tables a.head.now a.loans.now a.chunks.now a.index.now a.regions.now) a.list.now few c.plan_clean_up-plan.result c.plan_clean_up-plan.ensures

pub returns : goal.returns
returns c =
    let a = c.args in
    c.carry_clean_up.ensures ∙ clean_done a.s a.share (tables a.head.now a.loans.now a.chunks.now a.index.now a.regions.now) a.list.now c.plan_clean_up-plan.result c.plan_clean_up-plan.ensures
