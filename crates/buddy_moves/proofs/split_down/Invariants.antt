use mathlib.Core.Path.{◌≡◌}
use Prim.Native.Nat.{◌+◌, ◌<◌}
use Rattle.counter.specs.Limits.{levels_most}
use Rattle.buddy_rules.specs.Nodes.{pair_of}
use Rattle.buddy_rules.specs.Moves.{split_down}
use Rattle.buddy_moves.specs.Roomy.{Roomy}
use Rattle.buddy_moves.proofs.split_down.Given as goal

abbrev pub invariant-loop-d : goal.invariant-loop-d
invariant-loop-d l = (l.level + l.d < levels_most) × Roomy l.pairs l.level l.chunk l.offset l.n l.d l.tree × (split_down l.pairs l.level l.chunk l.offset l.loan l.node l.above l.initial.tree ≡ split_down l.pairs l.level l.chunk l.offset l.loan l.n l.d l.tree) × (pair_of l.n < l.pairs)
