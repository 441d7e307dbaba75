use mathlib.Core.Path.{sym, ◌∙◌}
use Rattle.buddy_rules.specs.Tables.{tables}
use Rattle.linked_buddy.proofs.Branches.{set_up_made, set_up_bad}
use Rattle.linked_buddy.proofs.tibrezkam_buddy_set_up.Goals as goal

pub read_buddy-s-requires : goal.read_buddy-s-requires
read_buddy-s-requires c =
    sym c.is_settings.ensures ∙ c.if-is_settings.true

pub returns-then-is_settings : goal.returns-then-is_settings
returns-then-is_settings c = let a = c.args in let all = set_up_made a.settings.now a.answer.now _ (tables a.head.now a.loans.now a.chunks.now a.index.now a.tree.now) (tables _ _ _ _ _) _ _ _ c.is_settings.ensures c.if-is_settings.true c.read_buddy-s.ensures c.set_up-r.ensures c.tell_set_up.ensures in
    record { tree_after = all.0; answer_after = all.1 }

pub returns-else-is_settings : goal.returns-else-is_settings
returns-else-is_settings c = let a = c.args in let all = set_up_bad a.settings.now a.answer.now _ (tables a.head.now a.loans.now a.chunks.now a.index.now a.tree.now) _ c.is_settings.ensures c.if-is_settings.false c.tell_bad.ensures in
    record { tree_after = all.0; answer_after = all.1 }
