use Rattle.rounding_rules.proofs.Masks.{joined}
use Rattle.rounding.proofs.join_masks.Goals as goal

-- `join_masks` meets its contract: the lesser mask has no digit that the greater lacks.

pub returns : goal.returns
returns c = joined c.requires.0 c.requires.1
