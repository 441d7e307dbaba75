use Rattle.wire_rules.proofs.Orders.{account_told, account_not}
use Rattle.wire_account.proofs.is_account.Goals as goal

pub returns-then-w-ne-ACCOUNT_WORDS : goal.returns-then-w-ne-ACCOUNT_WORDS
returns-then-w-ne-ACCOUNT_WORDS c = account_not c.args.w.now c.if-w-ne-ACCOUNT_WORDS.true

pub returns : goal.returns
returns c =
    account_told c.args.w.now _ _ _ _ _ c.if-w-ne-ACCOUNT_WORDS.false c.is_narrow.ensures c.word.ensures c.is_narrow-2.ensures c.is_narrow-3.ensures c.word-2.ensures
