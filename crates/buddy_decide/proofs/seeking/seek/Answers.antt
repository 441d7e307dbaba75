use mathlib.Core.Path.{◌∙◌}
use Prim.Native.Nat.{◌<◌}
use native.Mathlib.Omega.{arith}
use Rattle.counter.specs.Limits.{levels_most}
use Rattle.buddy_levels.specs.Seen.{part_settings}
use Rattle.buddy_rules.proofs.Abstract.{levels_in_lem}
use Rattle.buddy_decide.proofs.Shows.{seek_on, seek_at, seek_none}
use Rattle.buddy_decide.proofs.seeking.seek.Goals as goal

pub node_bytes-requires : goal.node_bytes-requires
node_bytes-requires c = let p = c.requires in (p.0, omega (arith, c.max-top.ensures, p.2, p.3))

pub offset_bounds-tree-level_from : goal.offset_bounds-tree-level_from
offset_bounds-tree-level_from c = omega (arith, c.level_from.ensures.upper_bound)

pub bounds-tree-level_from : goal.bounds-tree-level_from
bounds-tree-level_from c =
    let a = c.args in
    let low : c.loop-l.l < levels_most = omega (arith, c.if-levels-l.false, c.requires.3) in
    omega (arith, c.level_from.ensures.value, levels_in_lem (part_settings 0 a.pairs 0) c.loop-l.l low, c.requires.4)

pub loop-l-preserved : goal.loop-l-preserved
loop-l-preserved c =
    let a = c.args in
    (omega (arith, c.loop-l.invariant.0), c.loop-l.invariant.1 ∙ seek_on a.minimal a.pairs a.level a.levels a.tree.now c.loop-l.l c.if-levels-l.false _ _ c.level_from.ensures.value c.place_of-head.ensures c.if-head.false)

pub returns-then-levels-l : goal.returns-then-levels-l
returns-then-levels-l c =
    let a = c.args in
    seek_none a.minimal a.pairs a.level a.levels a.tree.now c.loop-l.l c.loop-l.invariant.1 c.if-levels-l.true _ _ c.max-top.ensures c.node_bytes.ensures.value

pub returns-then-head : goal.returns-then-head
returns-then-head c =
    let a = c.args in
    seek_at a.minimal a.pairs a.level a.levels a.tree.now c.loop-l.l c.if-levels-l.false _ _ c.level_from.ensures.value c.place_of-head.ensures c.loop-l.invariant.1 c.if-head.true
