use mathlib.Core.Path.{◌≡◌, sym, ap, ◌∙◌}
use native.Mathlib.Omega.{arith}
use Rattle.buddy_levels.specs.Seen.{part_tables}
use Rattle.buddy_rules.specs.Test.{left_chunks}
use Rattle.buddy_walk.proofs.Tops.{chunks_none, chunks_next, chunks_torn}
use Rattle.buddy_walk.proofs.left_chunks.Goals as goal

pub loop-c-init : goal.loop-c-init
loop-c-init c =
    let a = c.args in
    chunks_none a.w.now.settings (part_tables a.w.now.levels a.w.now.loans.now a.chunks.now a.w.now.index.now a.w.now.tree.now) a.left

pub returns-then-rest : goal.returns-then-rest
returns-then-rest c =
    let a = c.args in
    chunks_torn a.w.now.settings (part_tables a.w.now.levels a.w.now.loans.now a.chunks.now a.w.now.index.now a.w.now.tree.now) a.left a.n c.loop-c.c (omega arith)
    (sym c.if-rest.true ∙ c.loop-c.invariant)

pub loop-c-preserved : goal.loop-c-preserved
loop-c-preserved c =
    let a = c.args in
    chunks_next a.w.now.settings (part_tables a.w.now.levels a.w.now.loans.now a.chunks.now a.w.now.index.now a.w.now.tree.now) a.left c.loop-c.c c.loop-c.rest c.left_chunk-rest.result
    c.loop-c.invariant c.if-rest.false c.left_chunk-rest.ensures

pub returns : goal.returns
returns c =
    let a = c.args in
    let e : c.loop-c.c ≡ a.n = omega arith in
    c.loop-c.invariant ∙ ap (λ i. left_chunks a.w.now.settings (part_tables a.w.now.levels a.w.now.loans.now a.chunks.now a.w.now.index.now a.w.now.tree.now) i a.left) e
