use mathlib.Core.Path.{◌≡◌, sym, ap, ◌∙◌}
use Prim.Native.Nat.{◌+◌, ◌-◌}
use native.Mathlib.Omega.{arith}
use borrow.Author.Rules.{rules}
use Rattle.buddy_rules.specs.Moves.{Climbed}
use Rattle.buddy_moves.proofs.Moved.{climb_none, climb_top, climb_on, climb_stays, foot_stands, foot_own, foot_joins, foot_leaves, foot_above}
use Rattle.buddy_moves.proofs.climb.Goals as goal

pub returns-then-n : goal.returns-then-n
returns-then-n c =
    let a = c.args in
    let b = c.loop-l in
    let e = b.invariant.same ∙ climb_top a.pairs _ b.l b.n b.tree c.if-n.true in
    record { value = sym (ap (λ (z : Climbed). z.freed) e); tree_after = sym (ap (λ (z : Climbed). z.room) e) }

pub twin_word-requires : goal.twin_word-requires
twin_word-requires c =
    let a = c.args in
    let b = c.loop-l in
    foot_stands a.pairs _ b.l b.n b.tree (omega arith) c.if-n.false _ c.level_from-base.ensures.value b.invariant.foot

pub ready_pair-requires : goal.ready_pair-requires
ready_pair-requires c =
    let a = c.args in
    let b = c.loop-l in
    foot_joins a.pairs _ b.l b.n b.tree (omega arith) c.if-n.false _ c.level_from-base.ensures.value b.invariant.foot _ c.twin_word.ensures _ c.pair_of-p.ensures c.if-twin_word-ne-FREE_WORD.true

pub returns-then-twin_word-ne-FREE_WORD : goal.returns-then-twin_word-ne-FREE_WORD
returns-then-twin_word-ne-FREE_WORD c =
    let a = c.args in
    let b = c.loop-l in
    let e = b.invariant.same ∙ climb_stays a.pairs _ b.l b.n b.tree (omega arith) c.if-n.false _ c.level_from-base.ensures.value _ c.twin_word.ensures _ c.pair_of-p.ensures c.if-twin_word-ne-FREE_WORD.true _ c.side_in.ensures _ c.ready_pair.ensures in
    record { value = sym (ap (λ (z : Climbed). z.freed) e); tree_after = sym (ap (λ (z : Climbed). z.room) e) }

pub field_in-n-requires : goal.field_in-n-requires
field_in-n-requires c =
    let a = c.args in
    let b = c.loop-l in
    (search rules, foot_own a.pairs _ b.l b.n b.tree (omega arith) c.if-n.false _ c.level_from-base.ensures.value b.invariant.foot _ c.twin_word.ensures _ c.pair_of-p.ensures)

pub drop_pair-requires : goal.drop_pair-requires
drop_pair-requires c =
    let a = c.args in
    let b = c.loop-l in
    foot_leaves a.pairs _ b.l b.n b.tree (omega arith) c.if-n.false _ c.level_from-base.ensures.value b.invariant.foot _ c.twin_word.ensures _ c.pair_of-p.ensures c.if-twin_word-ne-FREE_WORD.false

pub loop-l-preserved : goal.loop-l-preserved
loop-l-preserved c =
    let a = c.args in
    let b = c.loop-l in
    let less : a.level + a.levels - (b.l + 1) ≡ a.level + a.levels - b.l - 1 = omega arith in
    record {
      same = b.invariant.same ∙ climb_on a.pairs _ b.l b.n b.tree (omega arith) c.if-n.false _ c.level_from-base.ensures.value _ c.twin_word.ensures _ c.pair_of-p.ensures _ less c.if-twin_word-ne-FREE_WORD.false _ c.field_in-n.ensures _ c.drop_pair.ensures;
      foot = foot_above a.pairs _ b.l b.n b.tree (omega arith) c.if-n.false _ c.level_from-base.ensures.value b.invariant.foot _ c.twin_word.ensures _ c.pair_of-p.ensures _ less c.if-twin_word-ne-FREE_WORD.false _ c.field_in-n.ensures _ c.drop_pair.ensures;
    }

pub returns : goal.returns
returns c =
    let a = c.args in
    let b = c.loop-l in
    let e = b.invariant.same ∙ climb_none a.pairs _ b.l b.n b.tree (omega arith) in
    record { value = sym (ap (λ (z : Climbed). z.freed) e); tree_after = sym (ap (λ (z : Climbed). z.room) e) }
