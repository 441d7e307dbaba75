-- A region with another end.
use Rattle.std.specs.Prelude.{ℕ, List}
use Rattle.words.specs.Rows.{row, written}
use Rattle.freelist_rules.specs.declared.Gap.{Gap}
use Rattle.freelist_rules.specs.Records.{region, gap_row}
use Rattle.freelist_rules.specs.Threads.{gap}

-- the gap with its end at x
abbrev pub ended_gap : ℕ → Gap → Gap
ended_gap x g = gap (region g.chunk g.start x) g.front

-- the table with region i ending at x
unfoldable pub ended_at : ℕ → ℕ → List ℕ → List ℕ
ended_at i x t = written gap_row i (ended_gap x (row gap_row i t)) t
