use mathlib.Core.Path.{◌∙◌}
use Rattle.buddy.proofs.Carried.{serves_now, loan_now, chunk_now, kept_done}
use Rattle.buddy.proofs.carries.keep_chunk.Goals as goal

pub grow-requires : goal.grow-requires
grow-requires c =
    let a = c.args in
    let pre = c.requires in
    pre.1

pub serve-l-requires : goal.serve-l-requires
serve-l-requires c =
    let a = c.args in
    let pre = c.requires in
    (serves_now a.s a.head.now a.loans.now a.chunks.now a.index.now a.tree.now a.k a.b pre.0 pre.1.more pre.1.low _ _ c.grow.ensures _ _ _ pre.2, loan_now a.s a.head.now a.loans.now a.chunks.now a.index.now a.tree.now a.k a.b pre.0 pre.1.more pre.1.low _ _ c.grow.ensures, chunk_now a.s a.head.now a.loans.now a.chunks.now a.index.now a.tree.now a.k a.b pre.0 pre.1.more pre.1.low _ _ c.grow.ensures)

pub shape_of-head : goal.shape_of-head
shape_of-head c = c.head-1.given

pub shape_of-tree : goal.shape_of-tree
shape_of-tree c = c.tree-2-1.given ∙ c.tree-1.given

pub returns : goal.returns
returns c =
    let a = c.args in
    let pre = c.requires in
    λ order. kept_done a.s a.head.now a.loans.now a.chunks.now a.index.now a.tree.now a.k a.share order a.b.levels pre.0.levels _ _ c.grow.ensures a.memory _ _ _ _ _ _ _ _ pre.0.size pre.0.level c.charged-charged.ensures c.serve-l.ensures.value c.serve-l.ensures.tree_after c.deliver_block.ensures.0 c.deliver_block.ensures.1 c.deliver_block.ensures.2
