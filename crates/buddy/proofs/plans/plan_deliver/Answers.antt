use mathlib.Core.Path.{refl, sym, ap, subst, ◌∙◌}
use Rattle.std.specs.Prelude.{Err}
use Rattle.std.proofs.lemmas.Result.{err_from_is_err_and}
use Rattle.store.specs.Comings.{coming_of}
use Rattle.buddy_rules.specs.Tables.{tables}
use Rattle.buddy.specs.Deliveries.{delivery_of}
use Rattle.buddy.specs.Ready.{Delivers}
use Rattle.buddy.proofs.Planned.{deliver_shut, deliver_go, decided_go, coming_buys}
use Rattle.buddy.proofs.plans.plan_deliver.Goals as goal

pub returns-in_err-b : goal.returns-in_err-b
returns-in_err-b c =
    let a = c.args in
    let t = tables a.head.now a.loans.now a.chunks.now a.index.now a.tree.now in
    let told = err_from_is_err_and c.from_residual.result c.from_residual.ensures.1 in
    let is = told.1 ∙ ap Err told.2 in
    record { result_value = ap delivery_of is ∙ deliver_shut a.s a.share a.order a.o t _ _ refl c.in_err-b.ensures.result_value; delivers = subst (Delivers a.s t) (sym is) tt }

pub returns-in_err-coming : goal.returns-in_err-coming
returns-in_err-coming c =
    let a = c.args in
    let t = tables a.head.now a.loans.now a.chunks.now a.index.now a.tree.now in
    let told = err_from_is_err_and c.from_residual-in_err-coming.result c.from_residual-in_err-coming.ensures.1 in
    let is = told.1 ∙ ap Err told.2 in
    record {
      result_value = ap delivery_of is ∙ deliver_go a.s a.share a.order a.o t _ _ refl c.in_ok-b.ensures.result_value c.in_err-coming.ensures;
      delivers = subst (Delivers a.s t) (sym is) tt;
    }

pub returns : goal.returns
returns c =
    let a = c.args in
    let t = tables a.head.now a.loans.now a.chunks.now a.index.now a.tree.now in
    let e = c.in_ok-coming.ensures in
    record {
      result_value = deliver_go a.s a.share a.order a.o t _ _ refl c.in_ok-b.ensures.result_value e;
      delivers = coming_buys a.s a.order t _ _ (λ k f g. decided_go a.o _ a.order k f (sym e ∙ g)) (λ k g. c.in_ok-b.ensures.open_buys k g);
    }
