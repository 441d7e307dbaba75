use Rattle.std.proofs.Common.{true, sym, ap, ◌∙◌}
use Rattle.std.proofs.lemmas.Result.{err_from_is_err_and}
use Rattle.counter.specs.Gate.{verdict_of}
use Rattle.store_rules.proofs.Holders.{holder}
use Rattle.freelist_rules.specs.Tables.{tables}
use Rattle.freelist_outcomes.proofs.Passing.{gate_passed}
use Rattle.freelist_decide.proofs.Seeing.{sees}
use Rattle.freelist.proofs.Planned.{ask_shut, ask_go}
use Rattle.freelist.proofs.plans.plan_ask.Goals as goal

pub returns-in_err-gate-clause-result_value : goal.returns-in_err-gate-clause-result_value
returns-in_err-gate-clause-result_value c =
    let a = c.args in
    let p = err_from_is_err_and c.from_residual.result c.from_residual.ensures.1 in
    rw (p.1, p.2) (ask_shut a.s (holder a.s.store a.share) (tables a.head.now a.loans.now a.chunks.now a.index.now a.regions.now) a.size a.mask _ (sym (ap verdict_of c.in_err-gate.was) ∙ c.gate.ensures))

pub invariant_of-view : goal.invariant_of-view
invariant_of-view c =
    let a = c.args in
    let p = gate_passed a.s (holder a.s.store a.share) (tables a.head.now a.loans.now a.chunks.now a.index.now a.regions.now) true (sym (ap verdict_of c.in_ok-gate.was) ∙ c.gate.ensures) in
    record { in_table = p.settings }

pub decide-requires : goal.decide-requires
decide-requires c =
    let a = c.args in
    let t = tables a.head.now a.loans.now a.chunks.now a.index.now a.regions.now in
    let p = gate_passed a.s (holder a.s.store a.share) t true (sym (ap verdict_of c.in_ok-gate.was) ∙ c.gate.ensures) in
    sees a.s t p.settings p.lengths p.sound

pub returns-clause-result_value : goal.returns-clause-result_value
returns-clause-result_value c =
    let a = c.args in
    ask_go a.s a.size a.mask a.head.now a.loans.now a.chunks.now a.regions.now a.index.now a.share _ (sym (ap verdict_of c.in_ok-gate.was) ∙ c.gate.ensures) c.decide.ensures.result_value
