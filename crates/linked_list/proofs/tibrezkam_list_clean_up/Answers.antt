use Rattle.freelist_rules.specs.Tables.{tables}
use Rattle.wire_rules.specs.Wire.{list_words}
use Rattle.wire_rules.proofs.Lent.{both_right}
use Rattle.linked_list.proofs.Branches.{clean_made, clean_refused}
use Rattle.linked_list.proofs.tibrezkam_list_clean_up.Goals as goal

pub heaps_in_table-table-requires : goal.heaps_in_table-table-requires
heaps_in_table-table-requires c =
    let a = c.args in
    (both_right list_words a.settings.now a.account.now _ _ c.is_settings.ensures c.is_account.ensures c.if-is_settings-is_account.true).1

pub read_free_list-s-requires : goal.read_free_list-s-requires
read_free_list-s-requires c =
    let a = c.args in
    (both_right list_words a.settings.now a.account.now _ _ c.is_settings.ensures c.is_account.ensures c.if-is_settings-is_account.true).0

pub read_share-share-requires : goal.read_share-share-requires
read_share-share-requires c =
    let a = c.args in
    ((both_right list_words a.settings.now a.account.now _ _ c.is_settings.ensures c.is_account.ensures c.if-is_settings-is_account.true).1, c.heaps_in_table-table.ensures)

pub put_share-requires : goal.put_share-requires
put_share-requires c =
    let a = c.args in
    (both_right list_words a.settings.now a.account.now _ _ c.is_settings.ensures c.is_account.ensures c.if-is_settings-is_account.true).1

pub returns-then-is_settings-is_account : goal.returns-then-is_settings-is_account
returns-then-is_settings-is_account c = let a = c.args in let all = clean_made a.settings.now a.account.now _ _ a.answer.now _ c.is_settings.ensures c.is_account.ensures _ _ _ (tables a.head.now a.loans.now a.chunks.now a.index.now a.regions.now) _ _ c.read_free_list-s.ensures c.read_share-share.ensures a.list.now _ _ c.if-is_settings-is_account.true c.clean_up-r.ensures c.put_share.ensures c.tell_released.ensures in
    record { account_after = all.0; list_after = all.1.0; answer_after = all.1.1 }

pub returns-else-is_settings-is_account : goal.returns-else-is_settings-is_account
returns-else-is_settings-is_account c = let a = c.args in let all = clean_refused a.settings.now a.account.now _ _ a.answer.now _ c.is_settings.ensures c.is_account.ensures (tables a.head.now a.loans.now a.chunks.now a.index.now a.regions.now) a.list.now c.if-is_settings-is_account.false c.tell_bad.ensures in
    record { account_after = all.0; list_after = all.1.0; answer_after = all.1.1 }
