use Rattle.freelist_rules.specs.Seen.{seen}
use Rattle.freelist_rules.specs.Tables.{marks}
use Rattle.store_rules.proofs.Signed.{signed_told}
use Rattle.freelist_test.proofs.heads.is_signed.Goals as goal

pub returns : goal.returns
returns c =
    signed_told marks (seen c.args.t.now) _ _ _ _ _ c.word.ensures c.word-2.ensures c.word-3.ensures c.word-4.ensures c.word-5.ensures
