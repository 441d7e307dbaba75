use mathlib.Core.Path.{sym, ap, subst}
use mathlib.Core.List.{List}
use Prim.Native.Nat.{ℕ, ◌+◌, ◌-◌, ◌<◌}
use native.Mathlib.Omega.{arith}
use lib.ListN.{length}
use Rattle.slabs.specs.Slab.{nowhere}
use Rattle.slabs.specs.declared.Taken.{Taken}
use Rattle.book_rules.specs.Ready.{Opens}
use Rattle.buddy_trees.specs.Trees.{up}
use Rattle.buddy_rules.specs.Nodes.{free_word}
use Rattle.buddy_rules.specs.Level.{pair_taken, added}
use Rattle.buddy_rules.specs.Moves.{left_next}
use Rattle.buddy_rules.specs.Tables.{level_from}
use Rattle.buddy_moves.specs.Roomy.{Roomy}
use Rattle.buddy_lend.proofs.Booked.{place_in, node_in, booked_done}
use Rattle.buddy_lend.proofs.Served.{still, loan_done, served_done}
use Rattle.buddy_lend.proofs.serving.serve.Goals as goal

pub add_chunk-requires : goal.add_chunk-requires
add_chunk-requires c = let p = c.requires in (p.0.enters.fit, omega (arith, p.0.below), p.0.low, p.0.pair, p.2, p.0.long)

pub overflow_add-l : goal.overflow_add-l
overflow_add-l c = omega (arith, c.word.ensures, c.requires.0.enters.serial)

pub overflow_sub-above : goal.overflow_sub-above
overflow_sub-above c =
    omega (arith, c.word-levels.ensures, c.requires.0.below)

pub overflow_sub-above-2 : goal.overflow_sub-above-2
overflow_sub-above-2 c =
    omega (arith, c.word-levels.ensures, c.requires.0.below)

pub split_chunk-n-requires : goal.split_chunk-n-requires
split_chunk-n-requires c = let a = c.args in
    let place = place_in a.s a.loans.now a.index.now _ c.requires.1 c.requires.0.enters.opens.place in
    let now = still a.s a.memory a.bytes a.head.now a.loans.now a.chunks.now a.index.now a.tree.now _ _ c.add_chunk.ensures _ c.word-levels.ensures _ (ap (λ (x : Taken). x.place) c.requires.2) a.level in record {
      pairs_le_pairs_most = (
        c.requires.0.enters.fit.pairs_most_lem,
        omega (arith, c.word-levels.ensures, c.requires.0.below, c.requires.0.low),
        omega (arith, place, c.requires.0.enters.fit.store.loans_most_lem),
        now (λ (x n : ℕ) (t : List ℕ). (pair_taken (level_from a.s (up (n - a.level - 1) a.level)) t).place < a.s.pairs) c.requires.0.own,
        omega (arith, c.requires.0.long),
      );
      roomy = now (λ (x n : ℕ) (t : List ℕ). Roomy a.s.pairs a.level x 0 (left_next a.s.pairs (up (n - a.level - 1) a.level) t) (n - a.level - 1) (added (level_from a.s (up (n - a.level - 1) a.level)) x 0 nowhere free_word t)) c.requires.0.roomy;
    }

pub enter_at-requires : goal.enter_at-requires
enter_at-requires c =
    let a = c.args in
    subst (λ (x : Taken). Opens a.s.store.loans x.place a.loans.now a.index.now) (sym c.requires.1) c.requires.0.enters.opens

pub put_node-requires : goal.put_node-requires
put_node-requires c =
    let a = c.args in
    let place = place_in a.s a.loans.now a.index.now _ c.requires.1 c.requires.0.enters.opens.place in
    let node = node_in a.s a.loans.now a.index.now _ c.requires.1 (length a.index.now) c.requires.0.enters.node in
    (c.requires.0.enters.fit, omega (arith, place, c.requires.0.enters.fit.store.loans_most_lem), omega (arith, node))

pub returns : goal.returns
returns c = let a = c.args in
    let booked = booked_done a.s a.loans.now a.index.now _ c.requires.1 _ (ap (λ (x : ℕ). x + 1) c.word.ensures) _ a.head.now _ _ _ _ c.enter_at.ensures.loans_after c.enter_at.ensures.index_after c.put_node.ensures in record { value = loan_done a.s a.memory a.bytes a.head.now a.loans.now a.chunks.now a.index.now a.tree.now _ _ c.add_chunk.ensures _ c.word-levels.ensures _ (ap (λ (x : Taken). x.place) c.requires.2) a.level a.size _ c.word.ensures; tree_after = served_done a.s a.memory a.bytes a.head.now a.loans.now a.chunks.now a.index.now a.tree.now _ _ c.add_chunk.ensures _ c.word-levels.ensures _ (ap (λ (x : Taken). x.place) c.requires.2) a.level _ c.requires.1 a.size _ _ _ _ c.split_chunk-n.ensures.value c.split_chunk-n.ensures.tree_after booked }
