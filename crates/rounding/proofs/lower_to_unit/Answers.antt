use lib.Bits.{and_le_l}
use Rattle.rounding_rules.proofs.Raising.{down_masked}
use Rattle.rounding.proofs.lower_to_unit.Goals as goal

-- `lower_to_unit` meets its contract: a mask's digits are what is above a multiple.

pub overflow_sub-result : goal.overflow_sub-result
overflow_sub-result c = and_le_l _ _

pub returns : goal.returns
returns c = down_masked c.args.x c.requires
