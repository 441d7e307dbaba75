use mathlib.Core.Path.{◌≡◌}
use mathlib.Core.Bool.{true}
use mathlib.Core.List.{[]}
use Prim.Native.Nat.{ℕ, ◌*◌, ◌≤◌}
use Rattle.counter.specs.Limits.{pairs_most}
use Rattle.buddy_rules.specs.LevelTest.{level_ok}
use Rattle.buddy_rules.specs.Level.{level_start}
use Rattle.buddy_rules.specs.Test.{every, pairs_in_use, pairs_ready}
use Rattle.buddy_levels.specs.Seen.{part_settings, level_part}
use Rattle.buddy_test.proofs.heads.count_pairs.Given as goal

abbrev pub invariant-loop-l : goal.invariant-loop-l
invariant-loop-l l =
    record {
      right : every (λ (i : ℕ). level_ok (level_start l.pairs i) l.pairs l.tree) l.l ≡ true;
      used : l.used ≡ pairs_in_use (part_settings 0 l.pairs 0) (level_part 0 [] l.tree) l.l;
      ready : l.ready ≡ pairs_ready (part_settings 0 l.pairs 0) (level_part 0 [] l.tree) l.l;
      few_used : l.used ≤ l.l * pairs_most;
      few_ready : l.ready ≤ l.l * pairs_most;
    }
