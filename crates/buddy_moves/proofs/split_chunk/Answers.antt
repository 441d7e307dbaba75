use native.Mathlib.Omega.{arith}
use Rattle.buddy_moves.proofs.Moved.{half_in, top_stands, top_place, top_roomy, top_node, top_tree}
use Rattle.buddy_moves.proofs.split_chunk.Goals as goal

pub add_pair-p-requires : goal.add_pair-p-requires
add_pair-p-requires c =
    let a = c.args in
    top_stands a.pairs a.level a.above _ a.tree.now c.level_from-base.ensures.value c.requires.pairs_le_pairs_most.1 c.requires.pairs_le_pairs_most.3 c.requires.pairs_le_pairs_most.4

pub node_of-requires : goal.node_of-requires
node_of-requires c =
    let a = c.args in
    omega (arith, c.requires.pairs_le_pairs_most.0, top_place a.pairs a.level a.above a.chunk a.loan _ _ a.tree.now _ c.level_from-base.ensures.value c.add_pair-p.ensures.value c.add_pair-p.ensures.tree_after c.requires.pairs_le_pairs_most.3)

pub split_down-requires : goal.split_down-requires
split_down-requires c = let a = c.args in record { pairs_le_pairs_most = (c.requires.pairs_le_pairs_most.0, c.requires.pairs_le_pairs_most.1, c.requires.pairs_le_pairs_most.2); roomy = top_roomy a.pairs a.level a.above a.chunk a.loan _ _ a.tree.now _ c.level_from-base.ensures.value c.add_pair-p.ensures.value c.add_pair-p.ensures.tree_after _ c.node_of.ensures c.requires.roomy; node_bound = (half_in a.pairs _ _ c.node_of.ensures (top_place a.pairs a.level a.above a.chunk a.loan _ _ a.tree.now _ c.level_from-base.ensures.value c.add_pair-p.ensures.value c.add_pair-p.ensures.tree_after c.requires.pairs_le_pairs_most.3), omega (arith, c.requires.pairs_le_pairs_most.4)) }

pub returns : goal.returns
returns c = let a = c.args in record { value = top_node a.pairs a.level a.above a.chunk a.loan _ _ a.tree.now _ c.level_from-base.ensures.value c.add_pair-p.ensures.value c.add_pair-p.ensures.tree_after _ c.node_of.ensures _ c.split_down.ensures.value; tree_after = top_tree a.pairs a.level a.above a.chunk a.loan _ _ a.tree.now _ c.level_from-base.ensures.value c.add_pair-p.ensures.value c.add_pair-p.ensures.tree_after _ c.node_of.ensures _ c.split_down.ensures.tree_after }
