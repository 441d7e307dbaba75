use Rattle.freelist_rules.specs.Seen.{seen}
use Rattle.freelist_test.proofs.Groups.{head_told}
use Rattle.freelist_test.proofs.heads.is_head.Goals as goal

pub returns : goal.returns
returns c =
    let t = c.args.t.now in
    head_told t.settings (seen t) c.args.n c.is_signed-signed.result c.word-k.result c.is_signed-signed.ensures c.word-k.ensures
