use Rattle.std.proofs.Common.{sym, ◌∙◌}
use Rattle.book_rules.proofs.Following.{of_none, of_torn, of_on}
use Rattle.book.proofs.chains.left_of.Goals as goal
use Rattle.book.proofs.chains.left_of.Goals.{then-left, else-left}

pub loop-i-init : goal.loop-i-init
loop-i-init c = sym (of_none _ _ _ _ _ _ _ _)

pub loop-i-preserved : goal.loop-i-preserved
loop-i-preserved c =
    let b = c.loop-i.invariant in
    elim c.if-left.branch [
      | then-left w ↦ w.left-is ∙ w.left_after-left.ensures ∙ sym (of_on _ _ _ _ _ _ _ _ _ _ _ b w.if-left.true w.first_of-first.ensures)
      | else-left w ↦ w.left-is ∙ w.if-left.false ∙ sym (of_torn _ _ _ _ _ _ _ _ _ (sym b ∙ w.if-left.false))
    ]
