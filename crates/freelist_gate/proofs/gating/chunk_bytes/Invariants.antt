use Rattle.std.proofs.Common.{◌≡◌}
use Rattle.freelist_gate.proofs.Gates.{bytes}
use Rattle.freelist_gate.proofs.gating.chunk_bytes.Given as goal

abbrev pub invariant-loop-i : goal.invariant-loop-i
invariant-loop-i l = l.sum ≡ bytes l.i l.chunks
