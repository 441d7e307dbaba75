use mathlib.Core.Path.{◌≡◌}
use Prim.Native.Nat.{◌+◌, ◌-◌}
use Rattle.buddy_outcomes.specs.Ask.{fresh_levels}
use Rattle.buddy_grow.proofs.growing.fresh_levels.Given as goal

abbrev pub invariant-loop-l : goal.invariant-loop-l
invariant-loop-l l = fresh_levels l.s l.level l.n l.initial.tree ≡ fresh_levels l.s l.l (l.level + l.n - l.l) l.tree
