use Rattle.std.proofs.Common.{refl}
use Rattle.buddy_levels.proofs.Steps.{taken_last, taken_next}
use Rattle.buddy_levels.proofs.pair_taken.Goals as goal

pub returns-then-last-n : goal.returns-then-last-n
returns-then-last-n c =
    let a = c.args in
    taken_last a.base a.tree.now _ _ refl c.place_of-last.ensures c.if-last-n.true _ _ c.field_in.ensures c.place_of-next.ensures

pub returns : goal.returns
returns c =
    let a = c.args in
    taken_next a.base a.tree.now _ _ refl c.place_of-last.ensures c.if-last-n.false _ c.wrapping_add_u64-more.ensures.value
