use borrow.Author.Rules.{rules}
use mathlib.Core.Path.{refl, sym, ◌∙◌}
use native.Mathlib.Omega.{arith}
use Rattle.buddy_levels.specs.Pairs.{ent_from}
use Rattle.buddy_walk.specs.Views.{walk_settings, walk_tables}
use Rattle.buddy_levels.proofs.Reading.{pair_used}
use Rattle.buddy_walk.proofs.Downs.{node_free, node_loan, node_low, node_split, pair_past, pair_lost, pair_left, pair_right, some_left, split_some, half_size, level_there}
use Rattle.buddy_walk.proofs.walk.+left_at_node_left_at_pair.Goals as goal

pub left_at_node-returns-then-word-eq-FREE_WORD : goal.left_at_node-returns-then-word-eq-FREE_WORD
left_at_node-returns-then-word-eq-FREE_WORD t c =
    let a = c.args in
    λ z. node_free (walk_settings a.w.now) (walk_tables a.w.now) a.level a.chunk a.offset a.node a.word a.left c.if-word-eq-FREE_WORD.true

pub left_at_node-returns-then-says_loan : goal.left_at_node-returns-then-says_loan
left_at_node-returns-then-says_loan t c =
    let a = c.args in
    λ z.
    node_loan (walk_settings a.w.now) (walk_tables a.w.now) a.chunk a.offset a.node a.word a.left c.if-word-eq-FREE_WORD.false c.says_loan.result c.says_loan.ensures
    a.level c.loan_said-place.result c.left_at_loan.result c.if-says_loan.true c.loan_said-place.ensures (c.left_at_loan.ensures a.level z)

pub left_at_node-returns-then-level-eq0 : goal.left_at_node-returns-then-level-eq0
left_at_node-returns-then-level-eq0 t c =
    let a = c.args in
    λ z.
    node_low (walk_settings a.w.now) (walk_tables a.w.now) a.chunk a.offset a.node a.word a.left c.if-word-eq-FREE_WORD.false c.says_loan.result c.says_loan.ensures a.level c.if-says_loan.false c.if-level-eq0.true

pub left_at_node-pair_said-p-requires : goal.left_at_node-pair_said-p-requires
left_at_node-pair_said-p-requires t c = split_some c.args.word c.says_loan.result c.if-word-eq-FREE_WORD.false c.says_loan.ensures c.if-says_loan.false

pub left_at_node-left_at_pair-requires : goal.left_at_node-left_at_pair-requires
left_at_node-left_at_pair-requires t c =
    let a = c.args in
    let n = c.if-level-eq0.false in
    (omega arith, (omega arith, omega arith))

pub left_at_node-returns : goal.left_at_node-returns
left_at_node-returns t c =
    let a = c.args in
    λ z.
    node_split (walk_settings a.w.now) (walk_tables a.w.now) a.chunk a.offset a.node a.word a.left c.if-word-eq-FREE_WORD.false c.says_loan.result c.says_loan.ensures
    a.level c.pair_said-p.result c.left_at_pair.result c.if-says_loan.false c.if-level-eq0.false c.pair_said-p.ensures (c.left_at_pair.ensures (half_size a.w.now.settings.minimal a.level a.size c.if-level-eq0.false z))

pub left_at_pair-overflow_add-base : goal.left_at_pair-overflow_add-base
left_at_pair-overflow_add-base t c =
    let a = c.args in
    let l = c.level_from-base in
    let w = level_there a.level a.w.now.levels a.w.now.settings.pairs a.w.now.settings.store.loans l.result a.w.now.loans.now a.w.now.index.now a.w.now.tree.now l.ensures.value c.requires.0 a.w.now.within in
    search rules

pub left_at_pair-offset_bounds-tree-base : goal.left_at_pair-offset_bounds-tree-base
left_at_pair-offset_bounds-tree-base t c =
    let a = c.args in
    let l = c.level_from-base in
    let w = level_there a.level a.w.now.levels a.w.now.settings.pairs a.w.now.settings.store.loans l.result a.w.now.loans.now a.w.now.index.now a.w.now.tree.now l.ensures.value c.requires.0 a.w.now.within in
    search rules

pub left_at_pair-bounds-tree-base : goal.left_at_pair-bounds-tree-base
left_at_pair-bounds-tree-base t c =
    let a = c.args in
    let l = c.level_from-base in
    let w = level_there a.level a.w.now.levels a.w.now.settings.pairs a.w.now.settings.store.loans l.result a.w.now.loans.now a.w.now.index.now a.w.now.tree.now l.ensures.value c.requires.0 a.w.now.within in
    search rules

pub left_at_pair-returns-then-tree-base : goal.left_at_pair-returns-then-tree-base
left_at_pair-returns-then-tree-base t c =
    let a = c.args in
    let l = c.level_from-base in
    λ z. pair_past (walk_settings a.w.now) (walk_tables a.w.now) a.level a.chunk a.offset a.node a.p a.left l.result _ l.ensures.value refl c.if-tree-base.true

pub left_at_pair-standing_pair-e-requires : goal.left_at_pair-standing_pair-e-requires
left_at_pair-standing_pair-e-requires t c =
    let a = c.args in
    let l = c.level_from-base in
    let w = level_there a.level a.w.now.levels a.w.now.settings.pairs a.w.now.settings.store.loans l.result a.w.now.loans.now a.w.now.index.now a.w.now.tree.now l.ensures.value c.requires.0 a.w.now.within in
    omega (arith, w, c.if-tree-base.false)

pub left_at_pair-returns-then-not-left-is_entry : goal.left_at_pair-returns-then-not-left-is_entry
left_at_pair-returns-then-not-left-is_entry t c =
    let a = c.args in
    let l = c.level_from-base in
    let r = c.standing_pair-e in
    let is = r.ensures ∙ sym (pair_used l.result a.p a.w.now.tree.now _ refl c.if-tree-base.false) in
    λ z.
    pair_lost (walk_settings a.w.now) (walk_tables a.w.now) a.level a.chunk a.offset a.node a.p a.left l.result (ent_from r.result) c.is_entry.result
    l.ensures.value is c.is_entry.ensures c.if-not-left-is_entry.true

pub left_at_pair-node_of-requires : goal.left_at_pair-node_of-requires
left_at_pair-node_of-requires t c =
    let a = c.args in
    let l = c.level_from-base in
    let w = level_there a.level a.w.now.levels a.w.now.settings.pairs a.w.now.settings.store.loans l.result a.w.now.loans.now a.w.now.index.now a.w.now.tree.now l.ensures.value c.requires.0 a.w.now.within in
    omega (arith, w, c.if-tree-base.false)

pub left_at_pair-overflow_sub-left : goal.left_at_pair-overflow_sub-left
left_at_pair-overflow_sub-left t c = omega (arith, some_left c.args.left c.is_entry.result c.if-not-left-is_entry.false)

pub left_at_pair-left_at_node-rest-requires : goal.left_at_pair-left_at_node-rest-requires
left_at_pair-left_at_node-rest-requires t c =
    let a = c.args in
    (omega arith, (omega arith, omega arith))

pub left_at_pair-returns-then-rest : goal.left_at_pair-returns-then-rest
left_at_pair-returns-then-rest t c =
    let a = c.args in
    let l = c.level_from-base in
    let r = c.standing_pair-e in
    let n = c.left_at_node-rest in
    let is = r.ensures ∙ sym (pair_used l.result a.p a.w.now.tree.now _ refl c.if-tree-base.false) in
    λ z.
    pair_left (walk_settings a.w.now) (walk_tables a.w.now) a.level a.chunk a.offset a.node a.p a.left l.result (ent_from r.result) c.is_entry.result
    l.ensures.value is c.is_entry.ensures
    c.node_of.result n.result c.if-not-left-is_entry.false c.node_of.ensures (n.ensures z) c.if-rest.true

pub left_at_pair-left_at_node-requires : goal.left_at_pair-left_at_node-requires
left_at_pair-left_at_node-requires t c =
    let a = c.args in
    (omega arith, (omega arith, omega arith))

pub left_at_pair-returns : goal.left_at_pair-returns
left_at_pair-returns t c =
    let a = c.args in
    let l = c.level_from-base in
    let r = c.standing_pair-e in
    let n = c.left_at_node-rest in
    let m = c.left_at_node in
    let is = r.ensures ∙ sym (pair_used l.result a.p a.w.now.tree.now _ refl c.if-tree-base.false) in
    λ z.
    pair_right (walk_settings a.w.now) (walk_tables a.w.now) a.level a.chunk a.offset a.node a.p a.left l.result (ent_from r.result) c.is_entry.result
    l.ensures.value is c.is_entry.ensures
    c.node_of.result n.result c.if-not-left-is_entry.false c.node_of.ensures (n.ensures z)
    c.node_of-2.result a.size m.result c.if-rest.false c.node_of-2.ensures z (m.ensures z)
