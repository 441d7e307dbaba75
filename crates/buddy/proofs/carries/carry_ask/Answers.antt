use mathlib.Core.Path.{sym, ap, subst, ◌∙◌}
use mathlib.Core.List.{[]}
use Rattle.buddy_rules.specs.Tables.{tables}
use Rattle.buddy_outcomes.specs.Ask.{carry_ask}
use Rattle.buddy_decide.specs.Plans.{plan_of, Planned}
use Rattle.std.specs.Prelude.{Result, Ok}
use Rattle.counter.specs.declared.refusal.Refusal.{Refusal}
use Rattle.buddy_decide.specs.declared.plans.Plan.{Plan}
use Rattle.buddy.specs.Ready.{AskReady}
use Rattle.buddy.proofs.Carried.{ask_refused, ask_lacks, ask_taken, ask_ordered}
use Rattle.buddy.proofs.carries.carry_ask.Goals as goal

pub grow-requires : goal.grow-requires
grow-requires c =
    let a = c.args in
    let pre = c.requires in
    subst (AskReady a.s (tables a.head.now a.loans.now [] a.index.now a.tree.now)) (c.in-Ok.is ∙ ap Ok c.in-Lack.is) pre

pub lend-l-requires : goal.lend-l-requires
lend-l-requires c =
    let a = c.args in
    let pre = c.requires in
    subst (AskReady a.s (tables a.head.now a.loans.now [] a.index.now a.tree.now)) (c.in-Ok.is ∙ ap Ok c.in-Take.is) pre

pub grow-requires-in-Buy : goal.grow-requires-in-Buy
grow-requires-in-Buy c =
    let a = c.args in
    let pre = c.requires in
    subst (AskReady a.s (tables a.head.now a.loans.now [] a.index.now a.tree.now)) (c.in-Ok.is ∙ ap Ok c.in-Buy.is) pre

pub returns-in-Err : goal.returns-in-Err
returns-in-Err c =
    let a = c.args in
    let e = c.in-Err.is in
    λ account size mask chunks k.
    let h = subst (Planned a.s size mask (tables a.head.now a.loans.now chunks a.index.now a.tree.now)) e k in
    ask_refused a.s a.head.now a.loans.now chunks a.index.now a.tree.now account size mask _ _ h c.refuse_ask.ensures ∙ ap (λ (p : Result Plan Refusal). carry_ask a.s account size mask (tables a.head.now a.loans.now chunks a.index.now a.tree.now) (plan_of p)) (sym e)

pub returns-in-Lack : goal.returns-in-Lack
returns-in-Lack c =
    let a = c.args in
    let e = (c.in-Ok.is ∙ ap Ok c.in-Lack.is) in
    λ account size mask chunks k.
    let h = subst (Planned a.s size mask (tables a.head.now a.loans.now chunks a.index.now a.tree.now)) e k in
    ask_lacks a.s a.head.now a.loans.now chunks a.index.now a.tree.now account size mask _ _ _ _ h c.grow.ensures c.refuse_ask-in-Lack.ensures ∙ ap (λ (p : Result Plan Refusal). carry_ask a.s account size mask (tables a.head.now a.loans.now chunks a.index.now a.tree.now) (plan_of p)) (sym e)

pub returns-in-Take : goal.returns-in-Take
returns-in-Take c =
    let a = c.args in
    let e = (c.in-Ok.is ∙ ap Ok c.in-Take.is) in
    λ account size mask chunks k.
    let h = subst (Planned a.s size mask (tables a.head.now a.loans.now chunks a.index.now a.tree.now)) e k in
    ask_taken a.s a.head.now a.loans.now chunks a.index.now a.tree.now account size mask _ _ _ _ _ _ _ _ h.size h.level c.lend-l.ensures.value c.lend-l.ensures.tree_after c.answer_block.ensures ∙ ap (λ (p : Result Plan Refusal). carry_ask a.s account size mask (tables a.head.now a.loans.now chunks a.index.now a.tree.now) (plan_of p)) (sym e)

pub returns-in-Buy : goal.returns-in-Buy
returns-in-Buy c =
    let a = c.args in
    let e = (c.in-Ok.is ∙ ap Ok c.in-Buy.is) in
    λ account size mask chunks k.
    let h = subst (Planned a.s size mask (tables a.head.now a.loans.now chunks a.index.now a.tree.now)) e k in
    ask_ordered a.s a.head.now a.loans.now chunks a.index.now a.tree.now account size mask _ _ _ _ _ h.levels c.grow-in-Buy.ensures c.answer_order.ensures ∙ ap (λ (p : Result Plan Refusal). carry_ask a.s account size mask (tables a.head.now a.loans.now chunks a.index.now a.tree.now) (plan_of p)) (sym e)
