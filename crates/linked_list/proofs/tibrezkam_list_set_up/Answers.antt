use mathlib.Core.Path.{sym, ◌∙◌}
use Rattle.freelist_rules.specs.Tables.{tables}
use Rattle.linked_list.proofs.Branches.{set_up_made, set_up_refused}
use Rattle.linked_list.proofs.tibrezkam_list_set_up.Goals as goal

pub read_free_list-s-requires : goal.read_free_list-s-requires
read_free_list-s-requires c =
    sym c.is_settings.ensures ∙ c.if-is_settings.true

pub returns-then-is_settings : goal.returns-then-is_settings
returns-then-is_settings c = let a = c.args in let all = set_up_made a.settings.now (tables a.head.now a.loans.now a.chunks.now a.index.now a.regions.now) _ a.answer.now _ c.is_settings.ensures _ _ _ c.if-is_settings.true c.read_free_list-s.ensures c.set_up-r.ensures c.tell_set_up.ensures in
    record { regions_after = all.0; answer_after = all.1 }

pub returns-else-is_settings : goal.returns-else-is_settings
returns-else-is_settings c = let a = c.args in let all = set_up_refused a.settings.now (tables a.head.now a.loans.now a.chunks.now a.index.now a.regions.now) _ a.answer.now _ c.is_settings.ensures c.if-is_settings.false c.tell_bad.ensures in
    record { regions_after = all.0; answer_after = all.1 }
