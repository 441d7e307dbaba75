use mathlib.Core.Path.{◌≡◌}
use mathlib.Core.List.{[]}
use Prim.Native.Nat.{◌≤◌}
use lib.ListN.{length, take}
use Rattle.buddy_levels.specs.Seen.{level_part}
use Rattle.buddy_rules.specs.Tables.{memories}
use Rattle.buddy_test.proofs.memories.gather_held.Given as goal

abbrev pub invariant-loop-c : goal.invariant-loop-c
invariant-loop-c l =
    (l.k ≤ l.c) × (length l.found ≡ length l.initial.found) × (take l.k l.found ≡ memories (level_part 0 l.chunks []) l.c)
