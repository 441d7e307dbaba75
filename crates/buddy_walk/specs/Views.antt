-- The settings and tables of a view, as far as a walk reads them.
use Rattle.counter.specs.declared.settings.BuddySettings.{BuddySettings}
use Rattle.buddy_levels.specs.Seen.{part_settings, loan_part}
use Rattle.buddy_rules.specs.Tables.{Tables}
use Rattle.buddy_walk.specs.declared.view.WalkView.{WalkView}

abbrev pub walk_settings : WalkView → BuddySettings
walk_settings w = part_settings w.settings.minimal w.settings.pairs w.settings.store.loans

abbrev pub walk_tables : WalkView → Tables
walk_tables w = loan_part w.loans.now w.index.now w.tree.now
