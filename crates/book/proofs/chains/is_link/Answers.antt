use Rattle.std.proofs.Common.{ℕ, ◌&&◌, eqb, ltb, leb, sym, ap, ◌∙◌, eq-eqb, ne_eqb}
use Rattle.book_rules.proofs.Following.{link_past, link_vacant, link_read}
use Rattle.book.proofs.chains.is_link.Goals as goal

pub returns-then-places-p : goal.returns-then-places-p
returns-then-places-p c = sym (link_past _ _ _ _ _ _ _ _ _ c.if-places-p.true)

pub returns-then-loans-p-eq0 : goal.returns-then-loans-p-eq0
returns-then-loans-p-eq0 c = sym (link_vacant _ _ _ _ _ _ _ _ _ c.if-places-p.false (eq-eqb _ _ c.if-loans-p-eq0.true))

pub returns : goal.returns
returns c =
    let a = c.args in
    ap (λ (m : ℕ). ltb 0 c.serial_of-s.result && (leb c.serial_of-s.result a.most && eqb m a.i)) c.remainder.ensures
    ∙ link_read _ _ _ _ _ _ _ _ _ _ c.if-places-p.false (ne_eqb _ _ c.if-loans-p-eq0.false) c.serial_of-s.ensures
