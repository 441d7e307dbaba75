use native.Mathlib.Omega.{arith}
use mathlib.Core.Path.{◌≡◌, refl}
use Prim.Native.Nat.{◌+◌}
use lib.ListN.{length-set}
use Rattle.words.proofs.Moved.{run_none, turn_one, down_join}
use Rattle.words.proofs.moves.down_by_ones.Goals as goal

pub loop-j-init : goal.loop-j-init
loop-j-init c = let a = c.args in (omega arith, run_none a.t.now a.src a.dst, refl)

pub loop-j-preserved : goal.loop-j-preserved
loop-j-preserved c =
    let a = c.args in
    let t = c.loop-j.t in
    let j = c.loop-j.j in (
      omega arith,
      down_join a.t.now t _ a.src a.dst (j + 1) j 1 (omega arith) (omega arith) (omega arith)
          c.loop-j.invariant.1 (turn_one t (a.src + j) (a.dst + j) (omega arith) (omega arith)),
      simp length-set (omega arith),
    )

pub shape_of-t : goal.shape_of-t
shape_of-t c = c.loop-j.invariant.2

pub returns : goal.returns
returns c =
    let e : c.loop-j.j ≡ c.args.m = omega arith in
    rw e at c.loop-j.invariant.1
