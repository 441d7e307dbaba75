use Rattle.words.specs.Rows.{rows}
use Rattle.freelist_rules.specs.Records.{chunk_row, gap_row}
use Rattle.freelist_rules.specs.Threads.{free_of}
use Rattle.freelist_marks.proofs.Marking.{Marking}
use Rattle.freelist_marks.proofs.marks.mark.Given as goal

abbrev pub invariant-loop-i : goal.invariant-loop-i
invariant-loop-i l = Marking (rows chunk_row l.k l.chunks) l.spare (free_of (rows gap_row l.n l.regions)) l.initial.list l.list l.i l.m l.bytes
