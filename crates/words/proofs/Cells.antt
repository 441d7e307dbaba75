-- Where a record's word stands, against the ends of a table.
use mathlib.Core.Path.{subst}
use Prim.Native.Nat.{ℕ, ◌*◌, ◌≤◌, ◌<◌}
use native.Mathlib.Nat.{mul-le-mul_right, one-mul}
use native.Mathlib.Omega.{arith}
use Rattle.words.specs.Words.{cell_of}

-- a record past the end has no word in the table
pub past : (at w i n : ℕ) → 0 < w → n ≤ i → n ≤ cell_of at w i
past at w i n p h =
    let e : i ≤ w * i = subst (λ (k : ℕ). k ≤ w * i) (one-mul i) (mul-le-mul_right i p) in
    omega arith
