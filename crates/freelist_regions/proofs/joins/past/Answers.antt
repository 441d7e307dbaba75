use Rattle.freelist_regions.proofs.Settling.{behind_yes, behind_not}
use Rattle.freelist_regions.proofs.joins.past.Goals as goal

pub returns-then-before : goal.returns-then-before
returns-then-before c = behind_yes _ _ c.if-before.true

pub returns-else-before : goal.returns-else-before
returns-else-before c = behind_not _ _ c.if-before.false
