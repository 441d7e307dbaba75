use Rattle.freelist_test.proofs.Groups.{loan_told}
use Rattle.freelist_test.proofs.blocks.is_loan.Goals as goal

pub returns : goal.returns
returns c =
    loan_told c.args.s c.requires c.args.given c.args.l
