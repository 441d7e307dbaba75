use Rattle.std.proofs.Common.{◌+◌, sym, ap, ◌∙◌, arith, eq-eqb, ne_eqb}
use Rattle.slabs.proofs.Steps.{vacancies_none, vacancies_more, vacancies_same}
use Rattle.slabs.proofs.count_vacant.Goals as goal
use Rattle.slabs.proofs.count_vacant.Goals.{then-cell-eq0, else-cell-eq0}

pub loop-p-init : goal.loop-p-init
loop-p-init c = (omega arith, sym (vacancies_none _))

pub loop-p-preserved : goal.loop-p-preserved
loop-p-preserved c =
    let i = c.loop-p.invariant.1 in
    let e = c.cell.ensures in
    elim c.if-cell-eq0.branch [
      | then-cell-eq0 w ↦ (omega arith, w.count-is ∙ ap (λ x. x + 1) i ∙ sym (vacancies_more _ _ (eq-eqb _ _ (sym e ∙ w.if-cell-eq0.true))))
      | else-cell-eq0 w ↦ (omega arith, w.count-is ∙ i ∙ sym (vacancies_same _ _ (ne_eqb _ _ (λ z. w.if-cell-eq0.false (e ∙ z)))))
    ]
