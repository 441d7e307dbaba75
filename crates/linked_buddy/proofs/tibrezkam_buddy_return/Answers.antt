use Rattle.buddy_rules.specs.Tables.{tables}
use Rattle.linked_buddy.proofs.Branches.{settings_right, account_right, return_made, return_bad}
use Rattle.linked_buddy.proofs.tibrezkam_buddy_return.Goals as goal

pub heaps_in_table-table-requires : goal.heaps_in_table-table-requires
heaps_in_table-table-requires c =
    let a = c.args in
    account_right a.settings.now a.account.now _ _ c.is_settings.ensures c.is_account.ensures c.if-is_settings-is_account.true

pub read_buddy-s-requires : goal.read_buddy-s-requires
read_buddy-s-requires c =
    let a = c.args in
    settings_right a.settings.now a.account.now _ _ c.is_settings.ensures c.is_account.ensures c.if-is_settings-is_account.true

pub read_share-share-requires : goal.read_share-share-requires
read_share-share-requires c =
    let a = c.args in
    (account_right a.settings.now a.account.now _ _ c.is_settings.ensures c.is_account.ensures c.if-is_settings-is_account.true, c.heaps_in_table-table.ensures)

pub put_share-requires : goal.put_share-requires
put_share-requires c =
    let a = c.args in
    account_right a.settings.now a.account.now _ _ c.is_settings.ensures c.is_account.ensures c.if-is_settings-is_account.true

pub returns-then-is_settings-is_account : goal.returns-then-is_settings-is_account
returns-then-is_settings-is_account c = let a = c.args in let all = return_made a.settings.now a.account.now _ _ c.is_settings.ensures c.is_account.ensures (record { serial = a.serial; chunk = a.chunk; offset = a.offset; size = a.size }) (tables a.head.now a.loans.now a.chunks.now a.index.now a.tree.now) a.list.now _ a.answer.now _ (tables _ _ _ _ _) _ _ _ _ _ c.if-is_settings-is_account.true c.read_buddy-s.ensures c.read_share-share.ensures c.return_block-r.ensures c.put_share.ensures c.tell_released.ensures in
    record { account_after = all.0; list_after = all.1.0; answer_after = all.1.1 }

pub returns-else-is_settings-is_account : goal.returns-else-is_settings-is_account
returns-else-is_settings-is_account c = let a = c.args in let all = return_bad a.settings.now a.account.now _ _ c.is_settings.ensures c.is_account.ensures (record { serial = a.serial; chunk = a.chunk; offset = a.offset; size = a.size }) (tables a.head.now a.loans.now a.chunks.now a.index.now a.tree.now) a.list.now a.answer.now _ c.if-is_settings-is_account.false c.tell_bad.ensures in
    record { account_after = all.0; list_after = all.1.0; answer_after = all.1.1 }
