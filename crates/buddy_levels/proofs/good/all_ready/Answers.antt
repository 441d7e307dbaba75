use Rattle.std.proofs.Common.{◌+◌, ◌-◌, ◌≡◌, ltb, sym, ap, ◌∙◌, arith, le-ltb, lt-ltb}
use Rattle.buddy_rules.specs.Nodes.{exhausted}
use Rattle.buddy_rules.specs.LevelTest.{along, ready_in, ready_after}
use Rattle.buddy_levels.proofs.Turns.{along_none, along_on, along_done}
use Rattle.buddy_levels.proofs.good.all_ready.Goals as goal

pub returns-then-field-le-EXHAUSTED : goal.returns-then-field-le-EXHAUSTED
returns-then-field-le-EXHAUSTED c =
    let a = c.args in
    let no = sym (ap (ltb exhausted) c.field.ensures) ∙ le-ltb exhausted _ c.if-field-le-EXHAUSTED.true in
    sym (c.loop.invariant ∙ along_none (ready_in a.base a.tree.now) (ready_after a.base a.tree.now) _ _ (omega arith) no)

pub loop-preserved : goal.loop-preserved
loop-preserved c =
    let a = c.args in
    let yes = sym (ap (ltb exhausted) c.field.ensures) ∙ lt-ltb exhausted _ c.if-field-le-EXHAUSTED.false in
    let less : a.k - c.loop.counter - 1 ≡ a.k - (c.loop.counter + 1) = omega arith in
    c.loop.invariant
    ∙ along_on (ready_in a.base a.tree.now) (ready_after a.base a.tree.now) _ _ _ (omega arith) yes c.link-p.ensures
    ∙ ap (along (ready_in a.base a.tree.now) (ready_after a.base a.tree.now) c.link-p.result) less

pub returns : goal.returns
returns c = sym (c.loop.invariant ∙ along_done _ _ _ _ (omega arith))
