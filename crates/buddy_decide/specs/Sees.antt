-- What the code of an ask asks of the tables, so that every word it reads is there; a passed gate gives it.
use Rattle.std.specs.Prelude.{List, ℕ, ◌≤◌, ◌<◌, length, get_or}
use Rattle.counter.specs.InTable.{BuddyIn}
use Rattle.counter.specs.Limits.{levels_most}
use Rattle.counter.specs.declared.settings.BuddySettings.{BuddySettings}
use Rattle.store_rules.specs.Loans.{places_at}
use Rattle.book_rules.specs.Ready.{Reads}
use Rattle.buddy_rules.specs.Tables.{Tables, tables, levels_at, level_from, chunks_from}
use Rattle.buddy_rules.specs.declared.view.BuddyView.{BuddyView}
use Rattle.buddy_levels.specs.Stands.{Takes}

pub record Sees (s : BuddySettings) (head loans index tree : List ℕ) : Type 0 where
  pub fit : BuddyIn s
  pub levels : get_or head levels_at 0 ≤ levels_most
  pub head_long : levels_at < length head
  pub book : Reads s.store.loans (get_or loans places_at 0) loans index
  pub tree_long : chunks_from s ≤ length tree
  pub takes : (l : ℕ) → l < get_or head levels_at 0 → Takes (level_from s l) tree

-- of a view
abbrev pub ViewSees : BuddyView → Type 0
ViewSees v = Sees v.settings v.head.now v.loans.now v.index.now v.tree.now

-- the tables of a view, with these chunks in place of its own
abbrev pub beside : BuddyView → List ℕ → Tables
beside v chunks = tables v.head.now v.loans.now chunks v.index.now v.tree.now
