use mathlib.Core.Path.{◌≡◌, sym, ◌∙◌}
use Prim.Native.Nat.{◌+◌, ◌-◌}
use native.Mathlib.Omega.{arith}
use Rattle.ring_rules.proofs.Steps.{met_done, met_far, met_torn, met_back, met_on, length_none, length_far, length_walk}
use Rattle.ring.proofs.ring_length.Goals as goal

pub returns-then-h : goal.returns-then-h
returns-then-h c = sym (length_none _ _ _ _ _ _ _ c.led_to-h.ensures c.if-h.true)

pub returns-then-places-h : goal.returns-then-places-h
returns-then-places-h c = sym (length_far _ _ _ _ _ _ _ c.led_to-h.ensures c.if-h.false c.if-places-h.true)

pub loop-met-init : goal.loop-met-init
loop-met-init c =
    let e : c.args.places - 0 ≡ c.args.places = omega arith in
    rw e (length_walk _ _ _ _ _ _ _ c.led_to-h.ensures c.if-h.false c.if-places-h.false)

pub returns-then-places-n : goal.returns-then-places-n
returns-then-places-n c = sym (c.loop-met.invariant ∙ met_far _ _ _ _ _ _ _ c.link-n.ensures (omega arith) c.if-places-n.true)

pub returns-then-link-p : goal.returns-then-link-p
returns-then-link-p c =
    sym (c.loop-met.invariant ∙ met_torn _ _ _ _ _ _ _ c.link-n.ensures (omega arith) c.if-places-n.false (λ s. c.if-link-p.true (c.link.ensures ∙ s)))

pub returns-then-n-h : goal.returns-then-n-h
returns-then-n-h c =
    omega (arith, c.loop-met.invariant ∙ met_back _ _ _ _ _ _ _ c.link-n.ensures (omega arith) c.if-places-n.false (sym c.link.ensures ∙ c.if-link-p.false) c.if-n-h.true)

pub loop-met-preserved : goal.loop-met-preserved
loop-met-preserved c =
    let e : c.args.places - c.loop-met.met - 1 ≡ c.args.places - (c.loop-met.met + 1) = omega arith in
    rw e at (c.loop-met.invariant ∙ met_on _ _ _ _ _ _ _ c.link-n.ensures (omega arith) c.if-places-n.false (sym c.link.ensures ∙ c.if-link-p.false) c.if-n-h.false)

pub returns : goal.returns
returns c = sym (c.loop-met.invariant ∙ met_done _ _ _ _ _ _ (omega arith))
