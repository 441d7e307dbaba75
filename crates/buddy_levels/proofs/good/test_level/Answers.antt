use Rattle.std.proofs.Common.{◌+◌, get_or, sym, refl, ◌∙◌}
use Rattle.buddy_rules.specs.Level.{used_at}
use Rattle.buddy_levels.proofs.Turns.{level_over, level_torn, level_all, used_few, ready_few}
use Rattle.buddy_levels.proofs.good.test_level.Goals as goal

pub returns-then-pairs-places-clause-right : goal.returns-then-pairs-places-clause-right
returns-then-pairs-places-clause-right c = let a = c.args in level_over a.base a.pairs a.tree.now (get_or a.tree.now (a.base + used_at) 0) refl c.if-pairs-places.true

pub returns-then-used-ready-clause-right : goal.returns-then-used-ready-clause-right
returns-then-used-ready-clause-right c =
    let a = c.args in
    level_torn a.base a.pairs a.tree.now (get_or a.tree.now (a.base + used_at) 0) refl _ _ c.count_used-used.ensures c.ring_size-ready.ensures c.if-used-ready.true

pub returns-then-not-all_ready-clause-right : goal.returns-then-not-all_ready-clause-right
returns-then-not-all_ready-clause-right c =
    let a = c.args in
    sym c.if-not-all_ready.true
    ∙ level_all a.base a.pairs a.tree.now _ refl _ _ c.count_used-used.ensures c.ring_size-ready.ensures c.if-pairs-places.false c.if-used-ready.false _ _ c.led_to.ensures c.all_ready.ensures

pub returns : goal.returns
returns c =
    let a = c.args in
    let n = get_or a.tree.now (a.base + used_at) 0 in
    let few = c.if-pairs-places.false in
    let whole = c.if-used-ready.false in
    let used = c.count_used-used.ensures in
    let ready = c.ring_size-ready.ensures in
    record {
      right = sym c.if-not-all_ready.false ∙ level_all a.base a.pairs a.tree.now n refl _ _ used ready few whole _ _ c.led_to.ensures c.all_ready.ensures;
      counts = (
        used,
        ready,
        used_few a.base a.pairs a.tree.now n refl _ _ used ready few whole,
        ready_few a.base a.pairs a.tree.now n refl _ _ used ready few whole,
      );
    }
