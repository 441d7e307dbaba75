use native.Mathlib.Omega.{arith}
use mathlib.Core.Path.{sym}
use Prim.Native.Nat.{◌-◌}
use lib.ListN.{length}
use Rattle.words.proofs.Moved.{moved_in, moved_out, both_fit, one_leaves}
use Rattle.words.proofs.moves.shift.Goals as goal

pub shift_down-requires : goal.shift_down-requires
shift_down-requires c =
    let a = c.args in
    let h = both_fit a.src a.dst (length a.t.now - a.m) c.if-src-room.true in
    (omega arith, omega arith)

pub shift_up-requires : goal.shift_up-requires
shift_up-requires c =
    let a = c.args in
    let h = both_fit a.src a.dst (length a.t.now - a.m) c.if-src-room.true in
    (omega arith, omega arith)

pub returns-then-dst-src : goal.returns-then-dst-src
returns-then-dst-src c =
    let a = c.args in
    let h = both_fit a.src a.dst (length a.t.now - a.m) c.if-src-room.true in
    rw (moved_in a.t.now a.src a.dst a.m (omega arith) (omega arith)) c.shift_down.ensures

pub returns-else-dst-src : goal.returns-else-dst-src
returns-else-dst-src c =
    let a = c.args in
    let h = both_fit a.src a.dst (length a.t.now - a.m) c.if-src-room.true in
    rw (moved_in a.t.now a.src a.dst a.m (omega arith) (omega arith)) c.shift_up.ensures

pub returns-else-src-room : goal.returns-else-src-room
returns-else-src-room c =
    let a = c.args in
    sym (moved_out a.t.now a.src a.dst a.m (λ k. omega (arith, one_leaves a.src a.dst (length a.t.now - a.m) c.if-src-room.false (omega arith))))

pub returns-else-m-n : goal.returns-else-m-n
returns-else-m-n c =
    let a = c.args in
    sym (moved_out a.t.now a.src a.dst a.m (λ k. omega arith))
