use mathlib.Core.Path.{◌≡◌, ap, ◌∙◌}
use Prim.Native.Nat.{ℕ, ◌+◌, ◌-◌, ◌%◌, ◌<◌, ◌^◌}
use native.Mathlib.Omega.{arith}
use lib.Bits.{bit_and}
use Rattle.rounding_rules.proofs.Masks.{ones_tested, masked}
use Rattle.rounding.proofs.remainder.Goals as goal

-- `remainder` meets its contract: what a mask keeps of a number is over when that is divided by the number after the mask.

by_mask : (x n : ℕ) → 0 < n → n < 2 ^ 64 → bit_and (n - 1) n ≡ 0 → bit_and x (n - 1) ≡ x % n
by_mask x n h k e =
    let q : n - 1 + 1 ≡ n = omega arith in
    masked x (ones_tested 64 (n - 1) (omega arith) (ap (bit_and (n - 1)) q ∙ e)) ∙ ap (λ (m : ℕ). x % m) q

pub returns-then-mask-n-eq0 : goal.returns-then-mask-n-eq0
returns-then-mask-n-eq0 c =
    let a = c.args in
    by_mask a.x a.n c.requires (omega arith) c.if-mask-n-eq0.true
