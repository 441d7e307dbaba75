use mathlib.Core.Path.{sym, ap, ◌∙◌}
use Rattle.std.specs.Prelude.{Err}
use Rattle.std.proofs.lemmas.Result.{err_from_is_err_and}
use Rattle.counter.specs.Gate.{verdict_of}
use Rattle.store_rules.specs.Outcomes.{list_ok}
use Rattle.store_rules.proofs.Holders.{holder}
use Rattle.returning.specs.Backs.{back_of}
use Rattle.buddy_rules.specs.Tables.{tables}
use Rattle.buddy_outcomes.proofs.Passing.{gate_passed}
use Rattle.buddy_decide.proofs.Seeing.{book_reads}
use Rattle.buddy.proofs.Planned.{return_shut, return_go}
use Rattle.buddy.proofs.plans.plan_return.Goals as goal

pub decide_return-requires : goal.decide_return-requires
decide_return-requires c =
    let a = c.args in
    let p = gate_passed a.s (holder a.s.store a.share) (tables a.head.now a.loans.now a.chunks.now a.index.now a.tree.now) (list_ok a.s.store a.list.now) (sym (ap verdict_of c.in_ok-gate.was) ∙ c.gate.ensures) in
    book_reads a.s (tables a.head.now a.loans.now a.chunks.now a.index.now a.tree.now) p.lent.settings p.lent.lengths p.sound

pub returns-in_err-gate : goal.returns-in_err-gate
returns-in_err-gate c =
    let a = c.args in
    let told = err_from_is_err_and c.from_residual.result c.from_residual.ensures.1 in
    ap back_of (told.1 ∙ ap Err told.2)
    ∙ return_shut a.s (holder a.s.store a.share) a.b (tables a.head.now a.loans.now a.chunks.now a.index.now a.tree.now) (list_ok a.s.store a.list.now) _ (sym (ap verdict_of c.in_err-gate.was) ∙ c.gate.ensures)

pub returns : goal.returns
returns c =
    let a = c.args in
    return_go a.s (holder a.s.store a.share) a.b (tables a.head.now a.loans.now a.chunks.now a.index.now a.tree.now) (list_ok a.s.store a.list.now) _ (sym (ap verdict_of c.in_ok-gate.was) ∙ c.gate.ensures) c.decide_return.ensures
