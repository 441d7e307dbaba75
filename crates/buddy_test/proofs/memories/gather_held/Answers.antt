use mathlib.Core.Path.{◌≡◌, refl, ap, ◌∙◌}
use mathlib.Core.List.{[]}
use Prim.Native.Nat.{◌<◌}
use native.Mathlib.Omega.{arith}
use lib.ListN.{length, get_or, length-set}
use Rattle.buddy_levels.specs.Seen.{level_part}
use Rattle.buddy_rules.specs.Tables.{chunk_places_at, memories}
use Rattle.buddy_test.proofs.Apart.{gather_none, gather_put, gather_pass}
use Rattle.buddy_test.proofs.memories.gather_held.Goals as goal
use Rattle.buddy_test.proofs.memories.gather_held.Goals.{then-cell-ne0, else-cell-ne0}

pub loop-c-init : goal.loop-c-init
loop-c-init c =
    let a = c.args in
    (omega arith, refl, gather_none a.chunks.now a.found.now)

pub loop-c-preserved : goal.loop-c-preserved
loop-c-preserved c =
    let a = c.args in
    let i = c.loop-c.invariant in
    let room = c.requires.0 in
    let low : c.loop-c.c < get_or a.chunks.now chunk_places_at 0 = omega (arith, c.loop-c-test.true, c.requires.1) in
    elim c.if-cell-ne0.branch [
      | then-cell-ne0 w ↦ (
        omega (arith, w.k-is),
        ap length w.found-is ∙ simp length-set i.1,
        rw (w.found-is, w.k-is) (gather_put c.loop-c.c c.loop-c.k a.chunks.now c.loop-c.found c.cell.result low c.cell.ensures i.2 w.cell-then-cell-ne0.result w.if-cell-ne0.true w.cell-then-cell-ne0.ensures (omega arith)),
      )
      | else-cell-ne0 w ↦ (
        omega (arith, w.k-is),
        ap length w.found-is ∙ i.1,
        rw (w.found-is, w.k-is) (gather_pass c.loop-c.c c.loop-c.k a.chunks.now c.loop-c.found c.cell.result low c.cell.ensures i.2 w.if-cell-ne0.false),
      )
    ]
