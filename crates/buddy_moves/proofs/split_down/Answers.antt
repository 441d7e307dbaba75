use mathlib.Core.Path.{refl, sym, ap, ◌∙◌}
use Prim.Native.Nat.{◌+◌, ◌-◌, ◌<◌}
use native.Mathlib.Omega.{arith}
use Rattle.counter.specs.Limits.{levels_most}
use Rattle.buddy_rules.specs.Nodes.{pair_of}
use Rattle.buddy_rules.specs.Moves.{Cut}
use Rattle.buddy_moves.proofs.Moved.{in_level, half_in, roomy_place, split_roomy, split_on, split_done}
use borrow.Author.Rules.{rules}
use Rattle.buddy_moves.proofs.split_down.Goals as goal

pub add_pair-p-requires : goal.add_pair-p-requires
add_pair-p-requires c =
    let b = c.loop-d in
    let a = c.args in
    let r = roomy_place a.pairs a.level a.chunk a.offset a.loan b.n b.tree _ _ refl b.d (search rules) c.level_from-base.ensures.value b.invariant.1 in
    omega (arith, in_level a.pairs (a.level + (b.d - 1)) _ (omega (arith, b.invariant.0)) r, c.level_from-base.ensures.value, b.auto.tree, c.requires.node_bound.1)

pub split_word-requires : goal.split_word-requires
split_word-requires c =
    let b = c.loop-d in
    let a = c.args in
    omega (arith, c.requires.pairs_le_pairs_most.0, roomy_place a.pairs a.level a.chunk a.offset a.loan b.n b.tree _ _ c.add_pair-p.ensures.value b.d (search rules) c.level_from-base.ensures.value b.invariant.1)

pub put_word-requires : goal.put_word-requires
put_word-requires c =
    let b = c.loop-d in
    let a = c.args in
    let low : a.level + (b.d - 1) + 1 < levels_most = search rules in
    omega (arith, in_level a.pairs (a.level + (b.d - 1) + 1) (pair_of b.n) low b.invariant.3, c.level_from.ensures.value, b.auto.tree, c.requires.node_bound.1)

pub loop-d-preserved : goal.loop-d-preserved
loop-d-preserved c =
    let b = c.loop-d in
    let a = c.args in (
      omega (arith, b.invariant.0),
      split_roomy a.pairs a.level a.chunk a.offset a.loan b.n b.tree _ _ c.add_pair-p.ensures.value _ _ _ _ _ c.add_pair-p.ensures.tree_after c.split_word.ensures c.put_word.ensures c.node_of-n.ensures b.d (search rules) c.level_from-base.ensures.value c.level_from.ensures.value b.invariant.1,
      b.invariant.2
          ∙ split_on a.pairs a.level a.chunk a.offset a.loan b.n b.tree _ _ c.add_pair-p.ensures.value _ _ _ _ _ c.add_pair-p.ensures.tree_after c.split_word.ensures c.put_word.ensures c.node_of-n.ensures b.d (search rules) c.level_from-base.ensures.value c.level_from.ensures.value,
      half_in a.pairs _ _ c.node_of-n.ensures (roomy_place a.pairs a.level a.chunk a.offset a.loan b.n b.tree _ _ c.add_pair-p.ensures.value b.d (search rules) c.level_from-base.ensures.value b.invariant.1),
    )

pub returns : goal.returns
returns c = let b = c.loop-d in
    let a = c.args in
    let e = b.invariant.2 ∙ split_done a.pairs a.level a.chunk a.offset a.loan b.n b.tree b.d (search rules) _ c.level_from-2.ensures.value _ c.loan_word.ensures _ c.put_word-2.ensures in record { value = sym (ap (λ (z : Cut). z.node) e); tree_after = sym (ap (λ (z : Cut). z.room) e) }
