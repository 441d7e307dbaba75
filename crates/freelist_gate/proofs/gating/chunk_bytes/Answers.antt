use Rattle.std.proofs.Common.{◌≡◌, ℕ, ◌+◌, refl, ap, ◌∙◌, arith, rules}
use Rattle.freelist_gate.proofs.Gates.{bytes, bytes_next}
use Rattle.freelist_gate.proofs.gating.chunk_bytes.Goals as goal

pub loop-i-init : goal.loop-i-init
loop-i-init c = refl

pub overflow_add-sum : goal.overflow_add-sum
overflow_add-sum c =
    let e = bytes_next _ _ _ c.args.chunks.now c.loop-i.invariant c.cell-sum.ensures in
    let h = c.requires.1 (c.loop-i.i + 1) (omega arith) in
    search rules

pub loop-i-preserved : goal.loop-i-preserved
loop-i-preserved c = bytes_next _ _ _ c.args.chunks.now c.loop-i.invariant c.cell-sum.ensures

pub returns : goal.returns
returns c =
    let e : c.loop-i.i ≡ c.args.k = omega arith in
    c.loop-i.invariant ∙ ap (λ (i : ℕ). bytes i c.args.chunks.now) e
