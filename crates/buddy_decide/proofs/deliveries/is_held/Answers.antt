use mathlib.Core.Path.{◌≡◌, refl, ap, ◌∙◌}
use Prim.Native.Nat.{ℕ}
use native.Mathlib.Omega.{arith}
use Rattle.store_rules.specs.Delivery.{holds}
use Rattle.buddy_rules.specs.Tables.{memories}
use Rattle.buddy_decide.proofs.Known.{seen, held_next}
use Rattle.buddy_decide.proofs.deliveries.is_held.Goals as goal

pub loop-c-init : goal.loop-c-init
unfolding memories
loop-c-init c = refl

pub loop-c-preserved : goal.loop-c-preserved
loop-c-preserved c =
    let a = c.args in
    held_next a.chunks.now _ _ (omega (arith, c.requires)) c.cell-size.ensures a.memory _ _ c.loop-c.invariant c.cell.ensures

pub returns : goal.returns
returns c =
    let a = c.args in
    let e : c.loop-c.c ≡ a.n = omega arith in
    c.loop-c.invariant ∙ ap (λ (i : ℕ). holds a.memory (memories (seen a.chunks.now) i)) e
