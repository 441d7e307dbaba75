-- The tables that a view shows.
use Rattle.freelist_rules.specs.declared.view.FreeListView.{FreeListView}
use Rattle.freelist_rules.specs.Tables.{Tables, tables}

abbrev pub seen : FreeListView → Tables
seen v = tables v.head.now v.loans.now v.chunks.now v.index.now v.regions.now
