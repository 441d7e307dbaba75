use native.Mathlib.Omega.{arith}
use Prim.Native.Nat.{ℕ, ◌-◌, ◌*◌, ◌/◌}
use Rattle.words.proofs.Moved.{down_join}
use Rattle.words.proofs.moves.shift_down.Goals as goal

pub returns : goal.returns
returns c =
    let a = c.args in
    let done : ℕ = 4 * (a.m / 4) in
    down_join a.t.now _ _ a.src a.dst a.m done (a.m - done) (omega arith) (omega arith) (omega arith)
    c.down_by_fours.ensures c.down_by_ones.ensures
