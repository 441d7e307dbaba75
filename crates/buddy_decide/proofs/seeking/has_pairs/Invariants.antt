use mathlib.Core.Path.{◌≡◌}
use mathlib.Core.List.{[]}
use Prim.Native.Nat.{◌+◌, ◌-◌}
use Rattle.buddy_levels.specs.Seen.{part_settings, level_part}
use Rattle.buddy_outcomes.specs.Ask.{pairs_room}
use Rattle.buddy_decide.proofs.seeking.has_pairs.Given as goal

abbrev pub invariant-loop-i : goal.invariant-loop-i
invariant-loop-i l = pairs_room (part_settings 0 l.pairs 0) (level_part l.levels [] l.tree) l.level l.n ≡ pairs_room (part_settings 0 l.pairs 0) (level_part l.levels [] l.tree) (l.level + l.i) (l.n - l.i)
