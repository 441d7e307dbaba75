use Rattle.rounding_rules.specs.Raising.{level_of}
use Rattle.rounding.proofs.level.Goals as goal

-- `level` meets its contract, which is the code.

pub returns : goal.returns
unfolding level_of
returns c = c.saturating_sub.ensures
