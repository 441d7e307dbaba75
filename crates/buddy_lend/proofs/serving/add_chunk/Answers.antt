use native.Mathlib.Omega.{arith}
use Rattle.buddy_lend.proofs.Served.{top_takes, top_low, chunk_done}
use Rattle.buddy_lend.proofs.serving.add_chunk.Goals as goal

pub pair_taken-top-requires : goal.pair_taken-top-requires
pair_taken-top-requires c =
    let a = c.args in
    top_takes a.s a.head.now a.tree.now _ c.word-levels.ensures _ c.level_from.ensures.value c.requires.1 c.requires.2 c.requires.3 c.requires.5

pub put_top-requires : goal.put_top-requires
put_top-requires c =
    let a = c.args in
    (c.requires.0.pairs_most_lem, omega (arith, c.requires.0.pairs_most_lem, top_low a.s a.head.now a.tree.now _ c.word-levels.ensures _ c.level_from.ensures.value _ c.pair_taken-top.ensures c.requires.3))

pub returns : goal.returns
returns c =
    let a = c.args in
    chunk_done a.s a.head.now a.tree.now _ c.word-levels.ensures _ c.level_from.ensures.value _ c.pair_taken-top.ensures _ a.chunks.now c.requires.4 a.memory a.bytes _ _ c.put_chunk.ensures c.put_top.ensures
