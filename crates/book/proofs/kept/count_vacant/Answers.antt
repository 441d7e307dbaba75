use Rattle.std.proofs.Common.{◌+◌, sym, ap, ◌∙◌, arith, eq-eqb, ne_eqb}
use Rattle.slabs.proofs.Steps.{vacancies_none, vacancies_more, vacancies_same}
use Rattle.book.proofs.kept.count_vacant.Goals as goal
use Rattle.book.proofs.kept.count_vacant.Goals.{then-loans-p-eq0, else-loans-p-eq0}

pub loop-p-init : goal.loop-p-init
loop-p-init c = (omega arith, sym (vacancies_none _))

pub loop-p-preserved : goal.loop-p-preserved
loop-p-preserved c =
    let i = c.loop-p.invariant.1 in
    elim c.if-loans-p-eq0.branch [
      | then-loans-p-eq0 w ↦ (omega arith, w.count-is ∙ ap (λ x. x + 1) i ∙ sym (vacancies_more _ _ (eq-eqb _ _ w.if-loans-p-eq0.true)))
      | else-loans-p-eq0 w ↦ (omega arith, w.count-is ∙ i ∙ sym (vacancies_same _ _ (ne_eqb _ _ w.if-loans-p-eq0.false)))
    ]
