use Prim.Native.Nat.{◌+◌, ◌*◌}
use Rattle.buddy_walk.proofs.walk.+left_at_node_left_at_pair.Given as goal

abbrev pub decreases-left_at_node : goal.decreases-left_at_node
decreases-left_at_node l = 2 * l.level

abbrev pub decreases-left_at_pair : goal.decreases-left_at_pair
decreases-left_at_pair l = 2 * l.level + 1
