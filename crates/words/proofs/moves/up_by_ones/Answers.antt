use native.Mathlib.Omega.{arith}
use mathlib.Core.Path.{◌≡◌, refl, ◌∙◌}
use Prim.Native.Nat.{◌+◌, ◌-◌}
use lib.ListN.{length-set}
use Rattle.words.proofs.Moved.{turn_one, up_none, up_turn, up_done}
use Rattle.words.proofs.moves.up_by_ones.Goals as goal

pub loop-j-init : goal.loop-j-init
loop-j-init c = let a = c.args in (omega arith, up_none a.t.now a.src a.dst a.m, refl)

pub loop-j-preserved : goal.loop-j-preserved
loop-j-preserved c =
    let a = c.args in
    let t = c.loop-j.t in
    let j = c.loop-j.j in (
      omega arith,
      up_turn a.t.now t _ a.src a.dst a.m j (j - 1) 1 (omega arith) (omega arith) (omega arith) (omega arith)
          c.loop-j.invariant.1 (turn_one t (a.src + (j - 1)) (a.dst + (j - 1)) (omega arith) (omega arith)),
      simp length-set (omega arith),
    )

pub shape_of-t : goal.shape_of-t
shape_of-t c = c.loop-j.invariant.2

pub returns : goal.returns
returns c =
    let a = c.args in
    let e : c.loop-j.j ≡ 0 = omega arith in
    (rw e at c.loop-j.invariant.1) ∙ up_done a.t.now a.src a.dst a.m
