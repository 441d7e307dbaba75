use Rattle.std.proofs.Common.{sym, ◌∙◌, rules}
use Rattle.freelist_test.proofs.Turns.{each_starts, each_on, each_not, each_ends}
use Rattle.freelist_test.proofs.chunks.is_each.Goals as goal

pub loop-i-init : goal.loop-i-init
loop-i-init c = let a = c.args in each_starts a.s a.made a.size a.chunks.now a.k

pub returns-then-not-before-c : goal.returns-then-not-before-c
returns-then-not-before-c c =
    let a = c.args in
    sym (c.loop-i.invariant ∙ each_not a.s a.made a.size a.chunks.now a.k c.loop-i.before c.loop-i.i (search rules) c.chunk_at-c.result c.is_chunk.result c.chunk_at-c.ensures c.is_chunk.ensures c.if-not-before-c.true)

pub loop-i-preserved : goal.loop-i-preserved
loop-i-preserved c =
    let a = c.args in
    c.loop-i.invariant ∙ each_on a.s a.made a.size a.chunks.now a.k c.loop-i.before c.loop-i.i (search rules) c.chunk_at-c.result c.is_chunk.result c.chunk_at-c.ensures c.is_chunk.ensures c.if-not-before-c.false

pub returns : goal.returns
returns c =
    let a = c.args in
    sym (c.loop-i.invariant ∙ each_ends a.s a.made a.size a.chunks.now a.k c.loop-i.before c.loop-i.i (search rules))
