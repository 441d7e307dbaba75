use Rattle.wire_rules.proofs.Shares.{read_share}
use Rattle.wire_account.proofs.read_share.Goals as goal

pub returns : goal.returns
returns c =
    read_share c.args.w.now c.args.s _ _ _ c.read_heap.ensures c.requires.1 c.narrow.ensures
