use mathlib.Core.Path.{◌≡◌, sym, ap, ◌∙◌}
use Prim.Native.Nat.{ℕ, ◌+◌, ◌-◌}
use native.Mathlib.Omega.{arith}
use Rattle.buddy_outcomes.specs.Ask.{fresh_levels}
use Rattle.buddy_grow.proofs.Grown.{fresh_none, fresh_on}
use Rattle.buddy_grow.proofs.growing.fresh_levels.Goals as goal

pub loop-l-init : goal.loop-l-init
loop-l-init c =
    let a = c.args in
    let all : a.n ≡ a.level + a.n - a.level = omega arith in
    ap (λ (n : ℕ). fresh_levels a.s a.level n a.tree.now) all

pub loop-l-preserved : goal.loop-l-preserved
loop-l-preserved c =
    let a = c.args in
    let b = c.loop-l in
    let less : a.level + a.n - b.l - 1 ≡ a.level + a.n - (b.l + 1) = omega arith in
    b.invariant
    ∙ fresh_on a.s b.l _ b.tree _ _ (omega arith) c.level_from.ensures.value c.fresh_level.ensures
    ∙ ap (λ (n : ℕ). fresh_levels a.s (b.l + 1) n c.fresh_level.new.tree) less

pub returns : goal.returns
returns c =
    let b = c.loop-l in
    sym (b.invariant ∙ fresh_none c.args.s _ _ b.tree (omega arith))
