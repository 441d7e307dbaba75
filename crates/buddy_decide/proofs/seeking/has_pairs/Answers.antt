use mathlib.Core.Path.{refl, sym, subst, ◌∙◌}
use mathlib.Core.List.{[]}
use Prim.Native.Nat.{ℕ, ◌+◌}
use native.Mathlib.Numerals.{unary_clauses}
use Rattle.buddy_levels.specs.Seen.{part_settings, level_part}
use Rattle.buddy_levels.specs.Stands.{Takes}
use Rattle.buddy_decide.proofs.Shows.{pairs_done, pairs_past, pairs_none, pairs_on}
use Rattle.buddy_decide.proofs.seeking.has_pairs.Goals as goal
use Rattle.buddy_decide.proofs.seeking.has_pairs.Goals.{then-l-levels+else-pairs-taken, else-l-levels}

pub loop-i-init : goal.loop-i-init
loop-i-init c = simp unary_clauses refl

pub pair_taken-taken-requires : goal.pair_taken-taken-requires
pair_taken-taken-requires c =
    subst (λ (x : ℕ). Takes x c.args.tree.now) (sym c.level_from.ensures.value) (c.requires.by_index (c.args.level + c.loop-i.i) c.if-l-levels.true)

pub returns-then-pairs-taken : goal.returns-then-pairs-taken
returns-then-pairs-taken c =
    let a = c.args in
    sym (c.loop-i.invariant ∙ pairs_none a.pairs a.level a.n a.levels a.tree.now c.loop-i.i c.loop-i-test.true c.if-l-levels.true _ _ c.level_from.ensures.value c.pair_taken-taken.ensures c.if-pairs-taken.true)

pub loop-i-preserved : goal.loop-i-preserved
loop-i-preserved c =
    let a = c.args in
    let more = c.loop-i-test.true in
    c.loop-i.invariant ∙ elim c.if-l-levels.branch [
      | then-l-levels+else-pairs-taken w ↦ pairs_on a.pairs a.level a.n a.levels a.tree.now c.loop-i.i more w.if-l-levels.true _ _ w.level_from.ensures.value w.pair_taken-taken.ensures w.if-pairs-taken.false
      | else-l-levels w ↦ pairs_past a.pairs a.level a.n a.levels a.tree.now c.loop-i.i more w.if-l-levels.false
    ]

pub returns : goal.returns
returns c =
    let a = c.args in
    sym (c.loop-i.invariant ∙ pairs_done (part_settings 0 a.pairs 0) (level_part a.levels [] a.tree.now) a.level a.n c.loop-i.i c.loop-i-test.false)
