use mathlib.Core.Path.{sym}
use native.Mathlib.Omega.{arith}
use Rattle.rounding_rules.specs.Growth.{grown}
use Rattle.rounding_rules.proofs.Growth.{reached_first, reached_next, reached_positive, reached_done, reached_over, grown_none}
use Rattle.rounding.proofs.grow.Goals as goal

-- `grow` meets its contract. The loop's invariant: c is the chunk size doubled, no more often than it takes. The measure
-- is what c lacks of the size.

pub returns-then-chunk-eq0 : goal.returns-then-chunk-eq0
returns-then-chunk-eq0 c = rw c.if-chunk-eq0.true (sym (grown_none c.args.size c.args.last))

pub loop-c-init : goal.loop-c-init
loop-c-init c = reached_first c.args.chunk c.args.size

pub returns-in_default : goal.returns-in_default
unfolding grown
returns-in_default c = omega (arith, reached_over (omega arith) (omega arith) c.loop-c.invariant (omega arith))

pub loop-c-smaller : goal.loop-c-smaller
loop-c-smaller c = omega (arith, reached_positive (omega arith) c.loop-c.invariant)

pub loop-c-preserved : goal.loop-c-preserved
loop-c-preserved c = let twice = c.in-Some.ensures in rw twice.1 (reached_next c.loop-c.invariant (omega arith))

pub returns : goal.returns
unfolding grown
returns c = omega (arith, reached_done (omega arith) (omega arith) c.loop-c.invariant (omega arith))
