use borrow.Author.Rules.{rules}
use mathlib.Core.Path.{sym, ap, ◌∙◌, subst}
use Prim.Native.Nat.{ℕ, ◌<◌}
use native.Mathlib.Omega.{arith}
use lib.ListN.{get_or}
use Rattle.buddy_rules.specs.Levels.{side_of}
use Rattle.buddy_rules.specs.Level.{tag_at, pair_cell, ring_head}
use Rattle.buddy_rules.specs.Moves.{Cut}
use Rattle.buddy_levels.specs.Stands.{Leaves}
use Rattle.buddy_lend.proofs.Sides.{node_is, node_low, took_whole, still_roomy, took_split}
use Rattle.buddy_lend.proofs.taking.take_side.Goals as goal

pub acquire-requires : goal.acquire-requires
acquire-requires c = let a = c.args in
    let at = sym c.level_from-base.ensures.value in record { leaves = subst (λ (x : ℕ). Leaves x a.h a.tree.now) at c.requires.leaves; h_value = (c.requires.h_value.0 ∙ ap (λ (x : ℕ). ring_head x a.tree.now) at, c.requires.h_value.1 ∙ ap (λ (x : ℕ). side_of (get_or a.tree.now (pair_cell x tag_at a.h) 0)) at) }

pub acquire-requires-else-from-level : goal.acquire-requires-else-from-level
acquire-requires-else-from-level c = let a = c.args in
    let at = sym c.level_from-base.ensures.value in record { leaves = subst (λ (x : ℕ). Leaves x a.h a.tree.now) at c.requires.leaves; h_value = (c.requires.h_value.0 ∙ ap (λ (x : ℕ). ring_head x a.tree.now) at, c.requires.h_value.1 ∙ ap (λ (x : ℕ). side_of (get_or a.tree.now (pair_cell x tag_at a.h) 0)) at) }

pub split_down-requires : goal.split_down-requires
split_down-requires c = let a = c.args in
    let node = node_is a.pairs a.from a.tree.now a.h _ c.requires.h_value.0 c.requires.h_value.1 _ c.node_of-node.ensures in
    let low = subst (λ (x : ℕ). x < a.pairs) c.requires.h_value.0 c.requires.pairs_le_pairs_most.4 in
    let fits = node_low a.pairs a.from a.tree.now a.level a.chunk a.offset a.loan _ _ node c.level_from-base.ensures.value low in record { pairs_le_pairs_most = search rules; roomy = still_roomy a.pairs a.from a.tree.now a.level a.chunk a.offset a.loan _ _ node c.level_from-base.ensures.value _ c.acquire-else-from-level.ensures c.requires.roomy; node_bound = (fits, omega (arith, c.requires.pairs_le_pairs_most.5)) }

pub returns-then-from-level : goal.returns-then-from-level
returns-then-from-level c = let a = c.args in
    let node = node_is a.pairs a.from a.tree.now a.h _ c.requires.h_value.0 c.requires.h_value.1 _ c.node_of-node.ensures in
    let whole = took_whole a.pairs a.from a.tree.now a.level a.chunk a.offset a.loan _ _ node c.level_from-base.ensures.value _ _ c.if-from-level.true c.loan_word.ensures c.acquire.ensures in record { value = sym (ap (λ (x : Cut). x.node) whole); tree_after = sym (ap (λ (x : Cut). x.room) whole) }

pub returns-else-from-level : goal.returns-else-from-level
returns-else-from-level c = let a = c.args in
    let node = node_is a.pairs a.from a.tree.now a.h _ c.requires.h_value.0 c.requires.h_value.1 _ c.node_of-node.ensures in
    let split = took_split a.pairs a.from a.tree.now a.level a.chunk a.offset a.loan _ _ node c.level_from-base.ensures.value _ c.acquire-else-from-level.ensures in record { value = c.split_down.ensures.value ∙ ap (λ (x : Cut). x.node) split; tree_after = c.split_down.ensures.tree_after ∙ ap (λ (x : Cut). x.room) split }
