use mathlib.Core.Path.{◌≡◌, sym, ap, ◌∙◌}
use Prim.Native.Nat.{ℕ, ◌*◌, ◌-◌, ◌%◌, ◌^◌, ◌<◌}
use native.Mathlib.Omega.{arith}
use Rattle.std.proofs.Common.{Option, Some, None, SomeIff}
use Rattle.rounding_rules.specs.Raising.{bits, power_up, raised}
use Rattle.rounding_rules.proofs.Powers.{shifted}
use Rattle.rounding_rules.proofs.Raising.{power_fits, power_past}
use Rattle.rounding.proofs.raise_to_power.Goals as goal

-- `raise_to_power` meets its contract: the power is 1 shifted by the digits of x - 1, and there are at most 64.

by_shift : (x k : ℕ) (r : Option ℕ) → k ≡ bits 64 (x - 1) → SomeIff r (k < 64) (1 * 2 ^ k % 2 ^ 64) → r ≡ raised (power_up x)
by_shift x k None e h = sym (power_past x e (omega (arith, h)))
by_shift x k (Some y) e h = ap Some (h.1 ∙ shifted 64 k h.0) ∙ sym (power_fits x e h.0)

pub returns : goal.returns
returns c = by_shift c.args.x _ _ (c.digits.ensures ∙ ap (bits 64) c.saturating_sub.ensures) c.checked_shl.ensures
