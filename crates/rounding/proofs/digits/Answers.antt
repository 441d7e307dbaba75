use native.Mathlib.Omega.{arith}
use Rattle.rounding_rules.proofs.Powers.{bits_leading}
use Rattle.rounding.proofs.digits.Goals as goal

-- `digits` meets its contract: the digits and the zeros above them make the word.

pub returns : goal.returns
returns c = omega (arith, bits_leading 64 c.args.x)
