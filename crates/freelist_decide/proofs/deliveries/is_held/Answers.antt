use Rattle.std.proofs.Common.{◌≡◌, ℕ, refl, ap, ◌∙◌, arith}
use Rattle.words.specs.Rows.{rows}
use Rattle.store_rules.specs.Delivery.{holds}
use Rattle.freelist_rules.specs.Records.{chunk_row}
use Rattle.freelist_rules.specs.Walk.{memories}
use Rattle.freelist_decide.proofs.Holding.{held_next}
use Rattle.freelist_decide.proofs.deliveries.is_held.Goals as goal

pub loop-i-init : goal.loop-i-init
loop-i-init c = refl

pub loop-i-preserved : goal.loop-i-preserved
loop-i-preserved c =
    let a = c.args in
    held_next a.memory _ _ _ a.chunks.now c.loop-i.invariant c.cell.ensures

pub returns : goal.returns
returns c =
    let a = c.args in
    let e : c.loop-i.i ≡ a.k = omega arith in
    c.loop-i.invariant ∙ ap (λ (i : ℕ). holds a.memory (memories (rows chunk_row i a.chunks.now))) e
