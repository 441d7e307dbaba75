use Rattle.std.proofs.Common.{◌≡◌, ◌-◌}
use Rattle.buddy_rules.specs.LevelTest.{along, ready_in, ready_after}
use Rattle.buddy_levels.proofs.good.all_ready.Given as goal

abbrev pub invariant-loop : goal.invariant-loop
invariant-loop l = along (ready_in l.base l.tree) (ready_after l.base l.tree) l.h l.k ≡ along (ready_in l.base l.tree) (ready_after l.base l.tree) l.p (l.k - l.counter)
