use Rattle.lists.proofs.Bools.{and_left}
use Rattle.buddy_rules.specs.Tables.{tables}
use Rattle.linked_buddy.proofs.Branches.{settings_right, account_right, deliver_made, deliver_bad}
use Rattle.linked_buddy.proofs.tibrezkam_buddy_deliver.Goals as goal

pub heaps_in_table-table-requires : goal.heaps_in_table-table-requires
heaps_in_table-table-requires c =
    let a = c.args in
    account_right a.settings.now a.account.now _ _ c.is_settings.ensures c.is_account.ensures (and_left _ _ c.if-is_settings-is_account.true)

pub read_buddy-s-requires : goal.read_buddy-s-requires
read_buddy-s-requires c =
    let a = c.args in
    settings_right a.settings.now a.account.now _ _ c.is_settings.ensures c.is_account.ensures (and_left _ _ c.if-is_settings-is_account.true)

pub read_share-share-requires : goal.read_share-share-requires
read_share-share-requires c =
    let a = c.args in
    (account_right a.settings.now a.account.now _ _ c.is_settings.ensures c.is_account.ensures (and_left _ _ c.if-is_settings-is_account.true), c.heaps_in_table-table.ensures)

pub read_order-order-requires : goal.read_order-order-requires
read_order-order-requires c =
    let a = c.args in
    account_right a.settings.now a.account.now _ _ c.is_settings.ensures c.is_account.ensures (and_left _ _ c.if-is_settings-is_account.true)

pub put_share-requires : goal.put_share-requires
put_share-requires c =
    let a = c.args in
    account_right a.settings.now a.account.now _ _ c.is_settings.ensures c.is_account.ensures (and_left _ _ c.if-is_settings-is_account.true)

pub returns-then-is_settings-is_account : goal.returns-then-is_settings-is_account
returns-then-is_settings-is_account c = let a = c.args in let all = deliver_made a.settings.now a.account.now _ _ c.is_settings.ensures c.is_account.ensures a.what a.memory a.mapping (tables a.head.now a.loans.now a.chunks.now a.index.now a.tree.now) _ c.is_outcome.ensures _ _ a.answer.now _ (tables _ _ _ _ _) _ _ _ _ _ _ _ c.if-is_settings-is_account.true c.read_buddy-s.ensures c.read_share-share.ensures c.read_order-order.ensures c.read_outcome-o.ensures c.deliver-r.ensures c.put_share.ensures c.put_order.ensures c.tell_delivered.ensures in
    record { account_after = all.0; tree_after = all.1.0; answer_after = all.1.1 }

pub returns-else-is_settings-is_account : goal.returns-else-is_settings-is_account
returns-else-is_settings-is_account c = let a = c.args in let all = deliver_bad a.settings.now a.account.now _ _ c.is_settings.ensures c.is_account.ensures a.what a.memory a.mapping (tables a.head.now a.loans.now a.chunks.now a.index.now a.tree.now) _ c.is_outcome.ensures a.answer.now _ c.if-is_settings-is_account.false c.tell_bad.ensures in
    record { account_after = all.0; tree_after = all.1.0; answer_after = all.1.1 }
