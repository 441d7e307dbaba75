use borrow.Author.Tests.{eq-eqb, ne_eqb}
use lib.ListN.{length}
use Rattle.wire_rules.specs.Wire.{settings_ok}
use Rattle.wire.proofs.settings.is_settings.Goals as goal

pub returns-then-w-n : goal.returns-then-w-n
unfolding settings_ok
returns-then-w-n c =
    let a = c.args in
    rw (ne_eqb (length a.w.now) a.n c.if-w-n.true)

pub returns : goal.returns
unfolding settings_ok
returns c =
    let a = c.args in
    rw (eq-eqb (length a.w.now) a.n c.if-w-n.false, c.is_narrow.ensures, c.is_narrow-2.ensures, c.is_narrow-3.ensures)
