use native.Mathlib.Omega.{arith}
use Prim.Native.Nat.{ℕ, ◌-◌, ◌*◌, ◌/◌}
use Rattle.words.proofs.Moved.{up_join}
use Rattle.words.proofs.moves.shift_up.Goals as goal

pub returns : goal.returns
returns c =
    let a = c.args in
    let last : ℕ = 4 * (a.m / 4) in
    up_join a.t.now _ _ a.src a.dst a.m last (a.m - last) (omega arith) (omega arith) (omega arith)
    c.up_by_ones.ensures c.up_by_fours.ensures
