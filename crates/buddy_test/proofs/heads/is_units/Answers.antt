use Rattle.buddy_test.proofs.Parts.{masked_told}
use Rattle.buddy_test.proofs.heads.is_units.Goals as goal

pub returns : goal.returns
returns c =
    masked_told c.args.s c.requires c.args.l
