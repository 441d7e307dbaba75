use mathlib.Core.Path.{◌∙◌}
use native.Mathlib.Omega.{arith}
use Rattle.rounding_rules.proofs.Masks.{power_top}
use Rattle.buddy_levels.specs.Seen.{part_tables}
use Rattle.buddy_walk.proofs.Tops.{chunk_none, chunk_high, chunk_off, chunk_walk, chunk_size, level_low}
use Rattle.buddy_walk.proofs.left_chunk.Goals as goal

pub returns-then-size-eq0 : goal.returns-then-size-eq0
returns-then-size-eq0 c =
    let a = c.args in
    chunk_none a.w.now.settings (part_tables a.w.now.levels a.w.now.loans.now a.chunks.now a.w.now.index.now a.w.now.tree.now) a.c a.left c.cell-size.result c.requires.1 c.cell-size.ensures c.if-size-eq0.true

pub returns-then-not-high-first : goal.returns-then-not-high-first
returns-then-not-high-first c =
    let a = c.args in
    chunk_high a.w.now.settings (part_tables a.w.now.levels a.w.now.loans.now a.chunks.now a.w.now.index.now a.w.now.tree.now) a.c a.left c.cell-size.result c.requires.1 c.cell-size.ensures
    c.if-size-eq0.false c.level-high.result c.level-first.result c.level-high.ensures c.level-first.ensures c.if-not-high-first.true

pub node_bytes-requires : goal.node_bytes-requires
node_bytes-requires c =
    (power_top c.args.w.now.in_table.minimal, omega (arith, level_low c.level-high.result c.level-first.result c.args.w.now.levels c.if-not-high-first.false))

pub returns-then-size-node_bytes : goal.returns-then-size-node_bytes
returns-then-size-node_bytes c =
    let a = c.args in
    chunk_off a.w.now.settings (part_tables a.w.now.levels a.w.now.loans.now a.chunks.now a.w.now.index.now a.w.now.tree.now) a.c a.left c.cell-size.result c.requires.1 c.cell-size.ensures
    c.if-size-eq0.false c.level-high.result c.level-first.result c.level-high.ensures c.level-first.ensures
    c.chunks_from.result c.cell-top.result c.node_bytes.result c.chunks_from.ensures.value c.cell-top.ensures c.node_bytes.ensures.value c.if-size-node_bytes.true

pub left_at_node-requires : goal.left_at_node-requires
left_at_node-requires c =
    let a = c.args in
    let low = level_low c.level-high.result c.level-first.result a.w.now.levels c.if-not-high-first.false in
    let long = chunk_size c.cell-size.result c.node_bytes.result _ c.if-size-node_bytes.false in (
      low,
      omega (arith, long),
    )

pub returns : goal.returns
returns c =
    let a = c.args in
    chunk_walk a.w.now.settings (part_tables a.w.now.levels a.w.now.loans.now a.chunks.now a.w.now.index.now a.w.now.tree.now) a.c a.left c.cell-size.result c.requires.1 c.cell-size.ensures
    c.if-size-eq0.false c.level-high.result c.level-first.result c.level-high.ensures c.level-first.ensures
    c.chunks_from.result c.cell-top.result c.node_bytes.result c.chunks_from.ensures.value c.cell-top.ensures c.node_bytes.ensures.value
    c.left_at_node.result c.if-not-high-first.false c.if-size-node_bytes.false
    (c.left_at_node.ensures (chunk_size c.cell-size.result c.node_bytes.result _ c.if-size-node_bytes.false ∙ c.node_bytes.ensures.value))
