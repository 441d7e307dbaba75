use native.Mathlib.Omega.{arith}
use Rattle.freelist_gate.proofs.Gates.{covered_is}
use Rattle.freelist_gate.proofs.gating.is_covered.Goals as goal

pub chunk_bytes-requires : goal.chunk_bytes-requires
chunk_bytes-requires c =
    (omega (arith, c.word-k.ensures, c.requires.0), λ j h. c.requires.1 j (omega (arith, c.word-k.ensures)))

pub returns : goal.returns
returns c =
    let a = c.args in
    covered_is a.h a.objects _ _ _ a.chunks.now c.word-k.ensures c.chunk_bytes.ensures c.covers.ensures
