use mathlib.Core.Path.{◌≡◌, refl, sym, ap, ◌∙◌}
use mathlib.Core.Bool.{Bool, true}
use mathlib.Core.List.{[]}
use Prim.Native.Nat.{ℕ, ◌<◌}
use native.Mathlib.Omega.{arith}
use lib.ListN.{length}
use Rattle.std.specs.Option.{is_some}
use Rattle.counter.specs.Limits.{levels_most}
use Rattle.buddy_rules.specs.LevelTest.{level_ok}
use Rattle.buddy_rules.specs.Level.{level_start}
use Rattle.buddy_rules.specs.Test.{every, pairs_in_use, pairs_ready}
use Rattle.buddy_rules.proofs.Tests.{every_stop, every_next}
use Rattle.buddy_levels.specs.Seen.{part_settings, level_part}
use Rattle.buddy_test.proofs.Parts.{level_fits, good_told, pairs_none, pairs_next, ready_none, ready_next}
use Rattle.buddy_test.proofs.heads.count_pairs.Goals as goal

pub loop-l-init : goal.loop-l-init
loop-l-init c =
    let a = c.args in
    record { right = refl; used = pairs_none a.pairs a.tree.now; ready = ready_none a.pairs a.tree.now; few_used = omega arith; few_ready = omega arith }

pub returns-in_err-level-clause-right : goal.returns-in_err-level-clause-right
returns-in_err-level-clause-right c =
    let a = c.args in
    let good : ℕ → Bool = λ (i : ℕ). level_ok (level_start a.pairs i) a.pairs a.tree.now in
    let e = good_told a.pairs c.loop-l.l _ a.tree.now _ c.level_from-base.ensures.value c.in_err-level.ensures.right in
    ap is_some c.from_residual.ensures ∙ sym (every_stop good a.levels c.loop-l.l c.loop-l-test.true (sym e))

pub loop-l-preserved : goal.loop-l-preserved
loop-l-preserved c =
    let a = c.args in
    let good : ℕ → Bool = λ (i : ℕ). level_ok (level_start a.pairs i) a.pairs a.tree.now in
    let e = good_told a.pairs c.loop-l.l _ a.tree.now true c.level_from-base.ensures.value c.in_ok-level.ensures.right in
    let told = c.in_ok-level.ensures.counts in
    let i = c.loop-l.invariant in
    record {
      right = every_next good c.loop-l.l i.right (sym e);
      used = pairs_next a.pairs a.tree.now c.loop-l.l _ _ _ c.level_from-base.ensures.value i.used told.0;
      ready = ready_next a.pairs a.tree.now c.loop-l.l _ _ _ c.level_from-base.ensures.value i.ready told.1;
      few_used = omega (arith, told.2, i.few_used, c.requires.0);
      few_ready = omega (arith, told.3, i.few_ready, c.requires.0);
    }
