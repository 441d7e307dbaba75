use Prim.Native.Nat.{◌+◌, ◌^◌, ◌<◌}
use native.Mathlib.Omega.{arith}
use Rattle.freelist_walk.proofs.Stepping.{all_one}
use Rattle.freelist_walk.proofs.turns.over_chunk.Goals as goal

pub overflow_add-result-2 : goal.overflow_add-result-2
overflow_add-result-2 c =
    let a = c.args in
    let q : a.s.whole + c.all_of.result < 2 ^ 64 = omega (arith, c.all_of.ensures, all_one a.s.byte a.size) in
    record { fits = q }

pub returns : goal.returns
returns c = rw c.all_of.ensures
