use mathlib.Core.Path.{◌≡◌}
use Rattle.buddy_levels.specs.Seen.{part_tables}
use Rattle.buddy_rules.specs.Test.{left_chunks}
use Rattle.buddy_walk.proofs.left_chunks.Given as goal

abbrev pub invariant-loop-c : goal.invariant-loop-c
invariant-loop-c l =
    l.rest ≡ left_chunks l.w.settings (part_tables l.w.levels l.w.loans.now l.chunks l.w.index.now l.w.tree.now) l.c l.left
