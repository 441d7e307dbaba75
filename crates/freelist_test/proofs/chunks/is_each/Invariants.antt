use Rattle.std.proofs.Common.{◌≡◌}
use Rattle.words.specs.Rows.{rows}
use Rattle.freelist_rules.specs.Records.{chunk_row}
use Rattle.freelist_test.specs.Parts.{each_ok}
use Rattle.freelist_test.proofs.Turns.{each_from}
use Rattle.freelist_test.proofs.chunks.is_each.Given as goal

abbrev pub invariant-loop-i : goal.invariant-loop-i
invariant-loop-i l = each_ok l.s l.made l.size (rows chunk_row l.k l.chunks) ≡ each_from l.s l.made l.size l.chunks l.k l.before l.i
