use mathlib.Core.Path.{sym, ap, subst, ◌∙◌}
use mathlib.Core.Bool.{true}
use Rattle.std.specs.Prelude.{Ok, Err}
use Rattle.std.proofs.lemmas.Result.{err_from_is_err_and}
use Rattle.counter.specs.Gate.{verdict_of}
use Rattle.store_rules.proofs.Holders.{holder}
use Rattle.buddy_rules.specs.Tables.{tables}
use Rattle.buddy_outcomes.proofs.Passing.{gate_passed}
use Rattle.buddy_decide.specs.Plans.{plan_of, Planned, TryOf}
use Rattle.buddy_decide.specs.declared.plans.Tried.{Tried}
use Rattle.buddy_decide.proofs.Seeing.{sees}
use Rattle.buddy_decide.proofs.Tests.{look_buys}
use Rattle.buddy.proofs.Planned.{ask_shut, shut_number, ask_go}
use Rattle.buddy.proofs.plans.plan_ask.Goals as goal

pub returns-in_err-gate : goal.returns-in_err-gate
returns-in_err-gate c =
    let a = c.args in
    let t = tables a.head.now a.loans.now a.chunks.now a.index.now a.tree.now in
    let told = err_from_is_err_and c.from_residual.result c.from_residual.ensures.1 in
    let is = told.1 ∙ ap Err told.2 in
    let e = sym (ap verdict_of c.in_err-gate.was) ∙ c.gate.ensures in
    record {
      result_value = ap plan_of is ∙ ask_shut a.s (holder a.s.store a.share) t a.size a.mask _ e;
      planned = subst (Planned a.s a.size a.mask t) (sym is) (shut_number a.s (holder a.s.store a.share) t true _ (sym e));
    }

pub invariant_of-v : goal.invariant_of-v
invariant_of-v c =
    let a = c.args in
    let p = gate_passed a.s (holder a.s.store a.share) (tables a.head.now a.loans.now a.chunks.now a.index.now a.tree.now) true (sym (ap verdict_of c.in_ok-gate.was) ∙ c.gate.ensures) in
    record { in_table = p.lent.settings }

pub try_held-requires : goal.try_held-requires
try_held-requires c =
    let a = c.args in
    let p = gate_passed a.s (holder a.s.store a.share) (tables a.head.now a.loans.now a.chunks.now a.index.now a.tree.now) true (sym (ap verdict_of c.in_ok-gate.was) ∙ c.gate.ensures) in
    sees a.s (tables a.head.now a.loans.now a.chunks.now a.index.now a.tree.now) p.lent.settings p.lent.lengths p.sound

pub decide_buy-requires : goal.decide_buy-requires
decide_buy-requires c =
    let a = c.args in
    let t = tables a.head.now a.loans.now a.chunks.now a.index.now a.tree.now in
    let p = gate_passed a.s (holder a.s.store a.share) t true (sym (ap verdict_of c.in_ok-gate.was) ∙ c.gate.ensures) in
    let f = subst (λ (r : Tried). TryOf a.s a.size a.mask t (Ok r)) c.in-Need.is (c.in_ok-t.ensures a.chunks.now) in
    (sees a.s t p.lent.settings p.lent.lengths p.sound, f.2, f.3, f.4)

pub returns-in_err-t : goal.returns-in_err-t
returns-in_err-t c =
    let a = c.args in
    let t = tables a.head.now a.loans.now a.chunks.now a.index.now a.tree.now in
    let told = err_from_is_err_and c.from_residual-in_err-t.result c.from_residual-in_err-t.ensures.1 in
    let is = told.1 ∙ ap Err told.2 in
    let f = c.in_err-t.ensures a.chunks.now in
    record {
      result_value = ask_go a.s a.share a.size a.mask t _ (sym (ap verdict_of c.in_ok-gate.was) ∙ c.gate.ensures) (ap plan_of is ∙ f.0 a.share.heap a.share.objects);
      planned = subst (Planned a.s a.size a.mask t) (sym is) f.1;
    }

pub returns-in-Take : goal.returns-in-Take
returns-in-Take c =
    let a = c.args in
    let t = tables a.head.now a.loans.now a.chunks.now a.index.now a.tree.now in
    let f = subst (λ (r : Tried). TryOf a.s a.size a.mask t (Ok r)) c.in-Take.is (c.in_ok-t.ensures a.chunks.now) in
    record { result_value = ask_go a.s a.share a.size a.mask t _ (sym (ap verdict_of c.in_ok-gate.was) ∙ c.gate.ensures) (f.0 a.share.heap a.share.objects); planned = f.1 }

pub returns-in-Need : goal.returns-in-Need
returns-in-Need c =
    let a = c.args in
    let t = tables a.head.now a.loans.now a.chunks.now a.index.now a.tree.now in
    let f = subst (λ (r : Tried). TryOf a.s a.size a.mask t (Ok r)) c.in-Need.is (c.in_ok-t.ensures a.chunks.now) in
    let all = look_buys a.s a.size a.mask t _ a.share.heap a.share.objects c.decide_buy.result f c.decide_buy.ensures.result_value c.decide_buy.ensures.planned_at in
    record { result_value = ask_go a.s a.share a.size a.mask t _ (sym (ap verdict_of c.in_ok-gate.was) ∙ c.gate.ensures) all.0; planned = all.1 }
