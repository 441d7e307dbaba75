use mathlib.Core.Path.{sym, ◌∙◌}
use native.Mathlib.Omega.{arith}
use Rattle.rounding_rules.proofs.Masks.{ones_more}
use Rattle.rounding_rules.proofs.Raising.{up_masked, up_over, raised_over}
use Rattle.rounding.proofs.raise_to_unit.Goals as goal

-- `raise_to_unit` meets its contract: the sum with the mask overflows where the multiple does, and a mask's digits are
-- what is above a multiple.

pub returns-in_err-t : goal.returns-in_err-t
returns-in_err-t c =
    let over = rw c.in_err-t.was at c.checked_add.ensures in
    c.from_residual.ensures ∙ sym (raised_over (up_over 64 c.args.x (ones_more (omega arith) c.requires) (omega arith)))

pub returns : goal.returns
returns c =
    let sum = rw c.in_ok-t.was at c.checked_add.ensures in
    rw sum.1 (up_masked c.args.x c.requires sum.0)
