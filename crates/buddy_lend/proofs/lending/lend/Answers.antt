use mathlib.Core.Path.{refl, sym, subst, ◌∙◌}
use mathlib.Core.List.{[]}
use lib.ListN.{length}
use native.Mathlib.Omega.{arith}
use Rattle.slabs.specs.declared.Taken.{Taken}
use Rattle.book_rules.specs.Ready.{Opens}
use Rattle.buddy_lend.proofs.Booked.{place_in, node_in, booked_done}
use Rattle.buddy_lend.proofs.Lent.{head_leaves, head_stands, pair_low, off_low, side_is, loan_is, lends_roomy, lent_done}
use Rattle.buddy_lend.proofs.lending.lend.Goals as goal

pub standing_pair-e-requires : goal.standing_pair-e-requires
standing_pair-e-requires c =
    let a = c.args in
    head_stands a.s a.from a.tree.now _ c.level_from-base.ensures.value _ c.requires.1 c.requires.0.leaves

pub side_from-offset-requires : goal.side_from-offset-requires
side_from-offset-requires c =
    let a = c.args in
    (c.requires.0.enters.fit, omega (arith, c.requires.0.low), off_low a.s a.from a.tree.now _ c.level_from-base.ensures.value _ c.requires.1 _ c.standing_pair-e.ensures c.requires.0.offset)

pub bounds-loans-1 : goal.bounds-loans-1
bounds-loans-1 c = omega (arith, c.requires.0.enters.opens.loans_long)

pub overflow_add-l : goal.overflow_add-l
overflow_add-l c = omega (arith, c.requires.0.enters.serial)

pub take_side-n-requires : goal.take_side-n-requires
take_side-n-requires c = let a = c.args in
    let place = place_in a.s a.loans.now a.index.now _ c.requires.2 c.requires.0.enters.opens.place in record { pairs_le_pairs_most = (c.requires.0.enters.fit.pairs_most_lem, c.requires.0.below, c.requires.0.low, omega (arith, place, c.requires.0.enters.fit.store.loans_most_lem), pair_low a.s a.from a.tree.now _ c.level_from-base.ensures.value _ c.requires.1 _ c.standing_pair-e.ensures c.requires.0.pair, c.requires.0.long); h_value = (c.requires.1, c.side_of.ensures ∙ side_is a.s a.from a.tree.now _ c.level_from-base.ensures.value _ c.requires.1 _ c.standing_pair-e.ensures); leaves = head_leaves a.s a.from a.tree.now _ c.requires.1 c.requires.0.leaves; roomy = lends_roomy a.s a.from a.tree.now _ c.level_from-base.ensures.value _ c.requires.1 _ c.standing_pair-e.ensures a.size a.loans.now _ c.side_from-offset.ensures _ refl a.level c.requires.0.roomy }

pub enter_at-requires : goal.enter_at-requires
enter_at-requires c =
    let a = c.args in
    subst (λ (x : Taken). Opens a.s.store.loans x.place a.loans.now a.index.now) (sym c.requires.2) c.requires.0.enters.opens

pub put_node-requires : goal.put_node-requires
put_node-requires c =
    let a = c.args in
    let place = place_in a.s a.loans.now a.index.now _ c.requires.2 c.requires.0.enters.opens.place in
    let node = node_in a.s a.loans.now a.index.now _ c.requires.2 (length a.index.now) c.requires.0.enters.node in
    (c.requires.0.enters.fit, omega (arith, place, c.requires.0.enters.fit.store.loans_most_lem), omega (arith, node))

pub returns : goal.returns
returns c = let a = c.args in
    let booked = booked_done a.s a.loans.now a.index.now _ c.requires.2 _ refl _ [] _ _ _ _ c.enter_at.ensures.loans_after c.enter_at.ensures.index_after c.put_node.ensures in record { value = loan_is a.s a.from a.tree.now _ c.level_from-base.ensures.value _ c.requires.1 _ c.standing_pair-e.ensures a.size a.loans.now _ c.side_from-offset.ensures _ refl; tree_after = lent_done a.s a.from a.tree.now _ c.level_from-base.ensures.value _ c.requires.1 _ c.standing_pair-e.ensures a.size a.loans.now _ c.side_from-offset.ensures _ refl a.level a.index.now _ c.requires.2 _ _ _ _ c.take_side-n.ensures.value c.take_side-n.ensures.tree_after booked }
