use native.Mathlib.Omega.{arith}
use Rattle.buddy_test.proofs.Apart.{memories_told}
use Rattle.buddy_test.proofs.memories.are_apart.Goals as goal

pub returns : goal.returns
returns c =
    let a = c.args in
    let found = c.gather_held-k.new.found in
    let e = c.gather_held-k.ensures in
    memories_told a.n c.gather_held-k.result a.chunks.now found c.requires.2 e.found_after (omega (arith, c.requires.1, e.upper_bound.0, e.upper_bound.1)) c.is_distinct.result c.is_distinct.ensures.0 c.is_distinct.ensures.1
