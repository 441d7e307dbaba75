use mathlib.Core.Path.{refl}
use Prim.Native.Nat.{◌+◌}
use native.Mathlib.Omega.{arith}
use Rattle.buddy_outcomes.specs.Gate.{held_count, held_bytes}
use Rattle.buddy_decide.proofs.Known.{seen}
use Rattle.buddy_gate.proofs.Held.{count_more, count_none, count_low, bytes_next, bytes_low}
use Rattle.buddy_gate.proofs.gating.held_at.Goals as goal

pub loop-c-init : goal.loop-c-init
unfolding held_count held_bytes
loop-c-init c = record { count = refl; bytes = refl }

pub overflow_add-count : goal.overflow_add-count
overflow_add-count c =
    let a = c.args in
    omega (arith, c.loop-c.invariant.count, count_low (seen a.chunks.now) c.loop-c.c)

pub overflow_add-bytes : goal.overflow_add-bytes
overflow_add-bytes c =
    let e = bytes_next c.args.chunks.now _ _ (omega (arith, c.requires.2)) c.cell-size.ensures _ c.loop-c.invariant.bytes in
    let h = bytes_low (seen c.args.chunks.now) c.args.n c.requires.1 (c.loop-c.c + 1) (omega arith) in
    omega (arith, e, h, c.requires.0)

pub loop-c-preserved : goal.loop-c-preserved
loop-c-preserved c =
    let a = c.args in
    let read = c.cell-size.ensures in
    let more = count_more a.chunks.now _ _ (omega (arith, c.requires.2)) read c.loop-c.count c.loop-c.invariant.count in
    let none = count_none a.chunks.now _ _ (omega (arith, c.requires.2)) read c.loop-c.count c.loop-c.invariant.count in
    record { count = grind (arith, more, none); bytes = bytes_next a.chunks.now _ _ (omega (arith, c.requires.2)) read _ c.loop-c.invariant.bytes }
