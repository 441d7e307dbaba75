use mathlib.Core.Path.{◌≡◌}
use mathlib.Core.Bool.{true}
use mathlib.Core.List.{[]}
use Rattle.buddy_levels.specs.Seen.{part_tables}
use Rattle.buddy_rules.specs.Test.{every, units_ok}
use Rattle.buddy_test.proofs.heads.are_units.Given as goal

abbrev pub invariant-loop-k : goal.invariant-loop-k
invariant-loop-k l = every (units_ok l.s (part_tables 0 l.loans [] [] [])) l.k ≡ true
