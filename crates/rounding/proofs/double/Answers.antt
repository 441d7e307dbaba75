use native.Mathlib.Omega.{arith}
use Rattle.rounding_rules.specs.Growth.{doubled}
use Rattle.rounding.proofs.double.Goals as goal

-- `double` meets its contract: where the sum stops at the last word it is past the last size.

pub returns : goal.returns
unfolding doubled
returns c = omega arith
