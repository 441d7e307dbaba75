use native.Mathlib.Omega.{arith}
use Rattle.freelist_test.proofs.Sizes.{doubling_starts, doubling_next, sized_past, sized_below}
use Rattle.freelist_test.proofs.chunks.is_sized.Goals as goal

pub returns-then-s-z : goal.returns-then-s-z
returns-then-s-z c =
    sized_past c.args.s c.requires c.args.z c.if-s-z.true

pub loop-p-init : goal.loop-p-init
loop-p-init c =
    doubling_starts c.args.s.start c.args.z c.requires.start_some

pub overflow_mul-p : goal.overflow_mul-p
overflow_mul-p c = omega (arith, c.requires.last_most, c.if-s-z.false)

pub loop-p-smaller : goal.loop-p-smaller
loop-p-smaller c = omega (arith, c.loop-p.invariant.some)

pub loop-p-preserved : goal.loop-p-preserved
loop-p-preserved c =
    doubling_next c.args.s.start c.args.z c.loop-p.p (omega (arith, c.requires.last_most, c.if-s-z.false)) c.loop-p-test.true c.loop-p.invariant

pub returns : goal.returns
returns c =
    sized_below c.args.s c.requires c.args.z c.loop-p.p c.if-s-z.false c.loop-p-test.false c.loop-p.invariant
