use Rattle.std.proofs.Common.{refl}
use Rattle.buddy_levels.proofs.Steps.{pair_dropped}
use Rattle.buddy_levels.proofs.drop_pair.Goals as goal

pub returns : goal.returns
returns c =
    let a = c.args in
    pair_dropped a.base a.tree.now a.p _ _ _ _ _ _ refl c.leave.ensures c.put_field_in.ensures c.put_field_in-2.ensures c.record_of.ensures refl
