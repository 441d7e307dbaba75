use Rattle.words.specs.Rows.{rows}
use Rattle.freelist_rules.specs.Records.{chunk_row}
use Rattle.freelist_release.proofs.Turns.{KeptRegions}
use Rattle.freelist_release.proofs.keeps.keep_regions.Given as goal

abbrev pub invariant-loop-i : goal.invariant-loop-i
invariant-loop-i l = KeptRegions (rows chunk_row l.k l.chunks) l.spare l.initial.regions l.n l.regions l.i l.kept
