use Rattle.freelist_release.proofs.Turns.{KeptChunks}
use Rattle.freelist_release.proofs.keeps.keep_chunks.Given as goal

abbrev pub invariant-loop-i : goal.invariant-loop-i
invariant-loop-i l = KeptChunks l.listed l.initial.chunks l.k l.chunks l.i l.kept
