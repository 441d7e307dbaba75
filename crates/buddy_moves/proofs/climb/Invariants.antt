use mathlib.Core.Path.{◌≡◌}
use Prim.Native.Nat.{◌+◌, ◌-◌}
use Rattle.buddy_rules.specs.Moves.{climbed}
use Rattle.buddy_moves.specs.Footing.{Footing}
use Rattle.buddy_moves.proofs.climb.Given as goal

abbrev pub invariant-loop-l : goal.invariant-loop-l
invariant-loop-l l =
    record {
      same : climbed l.pairs l.levels l.level l.node l.initial.tree ≡ climbed l.pairs (l.level + l.levels - l.l) l.l l.n l.tree;
      foot : Footing l.pairs (l.level + l.levels - l.l) l.l l.n l.tree;
    }
