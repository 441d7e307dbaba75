use Rattle.std.proofs.Common.{sym, ◌∙◌, arith, eq-eqb, ne_eqb}
use Rattle.slabs.proofs.Steps.{off_done, off_over, off_past, off_used, off_on}
use Rattle.slabs.proofs.off_chain.Goals as goal

pub returns-then-cur : goal.returns-then-cur
returns-then-cur c = sym (c.loop-led.invariant ∙ off_done _ _ _ _ _ c.if-cur.true)

pub returns-then-n-cur : goal.returns-then-n-cur
returns-then-n-cur c = sym (c.loop-led.invariant ∙ off_past _ _ _ _ _ c.if-cur.false (omega arith) c.if-n-cur.true)

pub returns-then-records-mark-ne0 : goal.returns-then-records-mark-ne0
returns-then-records-mark-ne0 c =
    sym (c.loop-led.invariant ∙ off_used _ _ _ _ _ c.if-cur.false (omega arith) c.if-n-cur.false (ne_eqb _ _ c.if-records-mark-ne0.true))

pub loop-led-preserved : goal.loop-led-preserved
loop-led-preserved c =
    c.loop-led.invariant ∙ off_on _ _ _ _ _ c.if-cur.false _ _ (omega arith) c.if-n-cur.false (eq-eqb _ _ c.if-records-mark-ne0.false) c.place_of-cur.ensures

pub returns-then-cur-2 : goal.returns-then-cur-2
returns-then-cur-2 c = omega (arith, c.loop-led.invariant ∙ off_done _ _ _ _ _ c.if-cur-2.true)

pub returns-else-cur-2 : goal.returns-else-cur-2
returns-else-cur-2 c = sym (c.loop-led.invariant ∙ off_over _ _ _ _ _ c.if-cur-2.false (omega arith))
