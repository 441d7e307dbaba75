use mathlib.Core.Path.{sym}
use native.Mathlib.Omega.{arith}
use lib.Pow.{pow_pos}
use Rattle.rounding_rules.proofs.Masks.{ones_test, ones_over}
use Rattle.rounding_rules.proofs.Powers.{shifted}
use Rattle.rounding.proofs.is_ones.Goals as goal

-- `is_ones` meets its contract: within the bound the two tests are one, and above it neither holds.

pub overflow_sub-top : goal.overflow_sub-top
overflow_sub-top c = omega (arith, shifted 64 c.args.most (omega arith), pow_pos c.args.most)

pub returns-then-mask-top : goal.returns-then-mask-top
returns-then-mask-top c =
    let most = c.args.most in
    ones_test most c.args.mask (omega (arith, shifted 64 most (omega arith), pow_pos most))

pub returns-else-mask-top : goal.returns-else-mask-top
returns-else-mask-top c =
    let most = c.args.most in
    sym (ones_over most c.args.mask (omega (arith, shifted 64 most (omega arith))))
