use Rattle.std.proofs.Common.{get_or, sym, ap, ◌∙◌}
use Rattle.std.proofs.lemmas.Result.{err_from_is_err_and}
use Rattle.words.specs.Rows.{rows}
use Rattle.store_rules.proofs.Holders.{holding}
use Rattle.freelist_rules.specs.Records.{chunk_row}
use Rattle.freelist_rules.specs.Tables.{tables, chunks_at}
use Rattle.freelist_rules.specs.Walk.{memories}
use Rattle.store.specs.Comings.{coming_of}
use Rattle.freelist_gate.specs.Gates.{pass_of}
use Rattle.freelist.proofs.Planned.{plan_shut, plan_go}
use Rattle.freelist.proofs.Arriving.{coming_buys}
use Rattle.freelist.proofs.plans.plan_deliver.Goals as goal

pub returns-in_err-bought-clause-result_value : goal.returns-in_err-bought-clause-result_value
returns-in_err-bought-clause-result_value c =
    let a = c.args in
    let p = err_from_is_err_and c.from_residual.result c.from_residual.ensures.1 in
    rw (p.1, p.2) (plan_shut a.s (holding a.s.store a.share a.order) a.o (tables a.head.now a.loans.now a.chunks.now a.index.now a.regions.now) (pass_of c.gate_delivery.result) _ (ap pass_of c.in_err-bought.was) c.gate_delivery.ensures.result_value)

pub returns-in_err-coming-clause-result_value : goal.returns-in_err-coming-clause-result_value
returns-in_err-coming-clause-result_value c =
    let a = c.args in
    let p = err_from_is_err_and c.from_residual-in_err-coming.result c.from_residual-in_err-coming.ensures.1 in
    rw (p.1, p.2) (plan_go a.s a.share a.order a.o (tables a.head.now a.loans.now a.chunks.now a.index.now a.regions.now) (pass_of c.gate_delivery.result) _ (ap pass_of c.in_ok-bought.was) c.gate_delivery.ensures.result_value (sym (ap coming_of c.in_err-coming.was) ∙ c.decide_delivery.ensures))

pub returns : goal.returns
returns c =
    let a = c.args in
    let e = sym (ap coming_of c.in_ok-coming.was) ∙ c.decide_delivery.ensures in
    record {
      result_value = plan_go a.s a.share a.order a.o (tables a.head.now a.loans.now a.chunks.now a.index.now a.regions.now) (pass_of c.gate_delivery.result) _ (ap pass_of c.in_ok-bought.was) c.gate_delivery.ensures.result_value e;
      delivers = coming_buys a.s (tables a.head.now a.loans.now a.chunks.now a.index.now a.regions.now) a.o (memories (rows chunk_row (get_or a.chunks.now chunks_at 0) a.chunks.now)) a.order c.in_ok-coming.coming c.gate_delivery.result c.in_ok-bought.bought c.in_ok-bought.was e c.gate_delivery.ensures.bought_for;
    }
