use Rattle.std.proofs.Common.{refl}
use Rattle.buddy_levels.proofs.Standing.{taken_takes}
use Rattle.buddy_levels.proofs.Steps.{taken_place, pair_added}
use Rattle.buddy_levels.proofs.add_pair.Goals as goal

pub pair_taken-taken-requires : goal.pair_taken-taken-requires
pair_taken-taken-requires c = taken_takes c.args.base c.args.tree.now c.requires

pub returns : goal.returns
returns c = let a = c.args in
    let taken = c.pair_taken-taken.ensures in record { value = taken_place a.base a.tree.now _ taken; tree_after = pair_added a.base a.tree.now _ taken a.chunk a.offset a.node a.left _ _ _ _ refl c.record_of.ensures refl c.enter_pair.ensures }
