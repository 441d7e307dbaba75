use mathlib.Core.Path.{sym}
use native.Mathlib.Omega.{arith}
use Rattle.rounding_rules.proofs.Masks.{power_test, power_over, power_none}
use Rattle.rounding_rules.proofs.Powers.{shifted}
use Rattle.rounding.proofs.is_power.Goals as goal

-- `is_power` meets its contract: 0 is no power, within the bound the two tests are one, and above it neither holds.

pub returns-then-x-eq0 : goal.returns-then-x-eq0
returns-then-x-eq0 c = rw c.if-x-eq0.true (sym (power_none c.args.most))

pub returns-then-x-top : goal.returns-then-x-top
returns-then-x-top c =
    let a = c.args in
    power_test a.most a.x (omega arith) (omega (arith, shifted 64 a.most (omega arith)))

pub returns-else-x-top : goal.returns-else-x-top
returns-else-x-top c =
    let a = c.args in
    sym (power_over a.most a.x (omega (arith, shifted 64 a.most (omega arith))))
