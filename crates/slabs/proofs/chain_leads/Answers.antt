use Rattle.std.proofs.Common.{sym, ◌∙◌, arith, eq-eqb, ne_eqb}
use Rattle.slabs.proofs.Steps.{leads_far, leads_used, leads_on, leads_done}
use Rattle.slabs.proofs.chain_leads.Goals as goal

pub returns-then-n-cur : goal.returns-then-n-cur
returns-then-n-cur c = sym (c.loop.invariant ∙ leads_far _ _ _ _ _ (omega arith) c.if-n-cur.true)

pub returns-then-cell-ne0 : goal.returns-then-cell-ne0
returns-then-cell-ne0 c =
    sym (c.loop.invariant ∙ leads_used _ _ _ _ _ (omega arith) c.if-n-cur.false (ne_eqb _ _ (λ z. c.if-cell-ne0.true (c.cell.ensures ∙ z))))

pub loop-preserved : goal.loop-preserved
loop-preserved c =
    let free = eq-eqb _ _ (sym c.cell.ensures ∙ c.if-cell-ne0.false) in
    c.loop.invariant ∙ leads_on _ _ _ _ _ _ _ (omega arith) c.if-n-cur.false free c.link-cur.ensures

pub returns : goal.returns
returns c = sym (c.loop.invariant ∙ leads_done _ _ _ _ _ (omega arith))
