use native.Mathlib.Omega.{arith}
use mathlib.Core.Path.{◌≡◌, refl, ◌∙◌}
use Prim.Native.Nat.{◌+◌, ◌-◌, ◌*◌}
use lib.ListN.{length-set}
use Rattle.words.proofs.Moved.{turn_four, up_none, up_turn, up_done}
use Rattle.words.proofs.moves.up_by_fours.Goals as goal

pub loop-j-init : goal.loop-j-init
loop-j-init c = let a = c.args in (omega arith, up_none a.t.now a.src a.dst (4 * a.turns), refl)

pub bounds-t-d-in-loop-j : goal.bounds-t-d-in-loop-j
bounds-t-d-in-loop-j c = simp length-set (omega arith)

pub bounds-t-d-in-loop-j-2 : goal.bounds-t-d-in-loop-j-2
bounds-t-d-in-loop-j-2 c = simp length-set (omega arith)

pub bounds-t-d-in-loop-j-3 : goal.bounds-t-d-in-loop-j-3
bounds-t-d-in-loop-j-3 c = simp length-set (omega arith)

pub loop-j-preserved : goal.loop-j-preserved
loop-j-preserved c =
    let a = c.args in
    let t = c.loop-j.t in
    let j = c.loop-j.j in (
      omega arith,
      up_turn a.t.now t _ a.src a.dst (4 * a.turns) (4 * j) (4 * (j - 1)) 4 (omega arith) (omega arith) (omega arith) (omega arith)
          c.loop-j.invariant.1 (turn_four t (a.src + 4 * (j - 1)) (a.dst + 4 * (j - 1)) (omega arith) (omega arith)),
      simp length-set (omega arith),
    )

pub shape_of-t : goal.shape_of-t
shape_of-t c = c.loop-j.invariant.2

pub returns : goal.returns
returns c =
    let a = c.args in
    let e : c.loop-j.j ≡ 0 = omega arith in
    (rw e at c.loop-j.invariant.1) ∙ up_done a.t.now a.src a.dst (4 * a.turns)
