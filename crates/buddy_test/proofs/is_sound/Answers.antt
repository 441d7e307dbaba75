use mathlib.Core.Path.{sym, ◌∙◌}
use Prim.Native.Nat.{◌≤◌}
use native.Mathlib.Omega.{arith}
use Rattle.counter.specs.Limits.{levels_most}
use Rattle.buddy_rules.specs.Seen.{seen}
use Rattle.buddy_test.proofs.Trees.{count_told, leaves_told, within_told}
use Rattle.buddy_test.proofs.Whole.{head_fails, levels_few, kept_fails, places_own, places_fail, held_few, memories_fail, good_fail, leaves_fail, met_fails, units_left}
use Rattle.buddy_test.proofs.is_sound.Goals as goal

pub returns-then-not-is_head : goal.returns-then-not-is_head
returns-then-not-is_head c = let v = c.args.v.now in head_fails v.settings (seen v) c.if-not-is_head.ensures

pub returns-in_default : goal.returns-in_default
returns-in_default c = let v = c.args.v.now in kept_fails v.settings (seen v) _ _ c.word-levels.ensures c.word-places.ensures c.in_default.ensures.right

pub returns-in_default-held_chunks : goal.returns-in_default-held_chunks
returns-in_default-held_chunks c = let v = c.args.v.now in places_fail v.settings (seen v) _ _ c.word-levels.ensures c.word-places.ensures c.in_default-held_chunks.ensures.right

pub are_memories-requires : goal.are_memories-requires
are_memories-requires c = let v = c.args.v.now in (held_few v.settings (seen v) v.in_table _ c.word-used.ensures c.in-Some-held_chunks.ensures.right, c.word-used.ensures)

pub returns-then-not-are_memories : goal.returns-then-not-are_memories
returns-then-not-are_memories c = let v = c.args.v.now in memories_fail v.settings (seen v) _ _ c.word-levels.ensures c.word-places.ensures c.if-not-are_memories.ensures

pub returns-in_default-count_pairs : goal.returns-in_default-count_pairs
returns-in_default-count_pairs c = let v = c.args.v.now in good_fail v.settings (seen v) _ _ c.word-levels.ensures c.word-places.ensures c.in_default-count_pairs.ensures.right

pub are_leaves-requires : goal.are_leaves-requires
are_leaves-requires c =
    let v = c.args.v.now in
    let levels = levels_few v.settings (seen v) _ c.word-levels.ensures c.if-not-is_head.ensures in
    let own = places_own v.settings (seen v) _ c.in-Some.ensures.right in
    let held = held_few v.settings (seen v) v.in_table _ c.word-used.ensures c.in-Some-held_chunks.ensures.right in
    let pairs = c.in-Some-count_pairs.ensures.counts in
    (omega (arith, pairs.2, levels), omega (arith, pairs.3, levels), omega (arith, c.in-Some.ensures.live.1, own, v.in_table.store.loans_most_lem), omega (arith, c.in-Some-held_chunks.ensures.held.1, held))

pub returns-then-not-are_leaves : goal.returns-then-not-are_leaves
returns-then-not-are_leaves c =
    let v = c.args.v.now in
    let pairs = c.in-Some-count_pairs.ensures.counts in
    let told = leaves_told v.settings _ v.loans.now v.chunks.now v.index.now v.tree.now _ _ _ c.word-places.ensures pairs.0 c.in-Some.ensures.live.0 _ _ _ pairs.1 c.in-Some-held_chunks.ensures.held.0 c.if-not-are_leaves.ensures in
    leaves_fail v.settings (seen v) _ _ c.word-levels.ensures c.word-places.ensures told

pub overflow_add-pairs : goal.overflow_add-pairs
overflow_add-pairs c =
    let v = c.args.v.now in
    let levels = levels_few v.settings (seen v) _ c.word-levels.ensures c.if-not-is_head.ensures in
    let own = places_own v.settings (seen v) _ c.in-Some.ensures.right in
    omega (arith, c.in-Some-count_pairs.ensures.counts.2, c.in-Some.ensures.live.1, own, v.in_table.store.loans_most_lem, levels)

pub are_met-requires : goal.are_met-requires
are_met-requires c =
    let v = c.args.v.now in
    let levels = levels_few v.settings (seen v) _ c.word-levels.ensures c.if-not-is_head.ensures in
    let own = places_own v.settings (seen v) _ c.in-Some.ensures.right in
    let pairs = c.in-Some-count_pairs.ensures in (
      levels,
      held_few v.settings (seen v) v.in_table _ c.word-used.ensures c.in-Some-held_chunks.ensures.right,
      c.word-used.ensures,
      within_told v.settings _ v.loans.now v.chunks.now v.index.now v.tree.now v.head.now _ v.in_table c.requires levels c.word-places.ensures own (sym pairs.right),
      count_told v.settings _ v.loans.now v.chunks.now v.index.now v.tree.now _ _ _ c.word-places.ensures pairs.counts.0 c.in-Some.ensures.live.0,
    )

pub returns-then-not-are_met : goal.returns-then-not-are_met
returns-then-not-are_met c = let v = c.args.v.now in met_fails v.settings (seen v) _ _ c.word-levels.ensures c.word-places.ensures c.if-not-are_met.ensures

pub are_units-requires : goal.are_units-requires
are_units-requires c =
    let v = c.args.v.now in
    let own = places_own v.settings (seen v) _ c.in-Some.ensures.right in
    (v.in_table, omega (arith, own, v.in_table.store.loans_most_lem), c.word-places.ensures, omega (arith, own, c.requires.loans))

pub returns : goal.returns
returns c =
    let v = c.args.v.now in
    let pairs = c.in-Some-count_pairs.ensures in
    let leaves = leaves_told v.settings _ v.loans.now v.chunks.now v.index.now v.tree.now _ _ _ c.word-places.ensures pairs.counts.0 c.in-Some.ensures.live.0 _ _ _ pairs.counts.1 c.in-Some-held_chunks.ensures.held.0 c.if-not-are_leaves.ensures in
    units_left v.settings (seen v) _ _ c.word-levels.ensures c.word-places.ensures
    c.if-not-is_head.ensures c.in-Some.ensures.right c.in-Some-held_chunks.ensures.right c.if-not-are_memories.ensures pairs.right leaves c.if-not-are_met.ensures _ c.are_units.ensures
