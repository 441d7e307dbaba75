-- A store's tables as the code's view of them has them.
use Rattle.buddy_rules.specs.Tables.{Tables, tables}
use Rattle.buddy_rules.specs.declared.view.BuddyView.{BuddyView}

abbrev pub seen : BuddyView → Tables
seen v = tables v.head.now v.loans.now v.chunks.now v.index.now v.tree.now
