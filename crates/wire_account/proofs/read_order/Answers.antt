use native.Mathlib.Omega.{arith}
use Rattle.wire_rules.proofs.Orders.{right_yes, order_none, order_kept}
use Rattle.wire_account.proofs.read_order.Goals as goal

pub returns-then-word-eq0 : goal.returns-then-word-eq0
returns-then-word-eq0 c = order_none _ _ c.word.ensures c.if-word-eq0.true

pub narrow-requires : goal.narrow-requires
narrow-requires c = omega (arith, (right_yes c.args.w.now c.requires).store_most)

pub narrow-requires-2 : goal.narrow-requires-2
narrow-requires-2 c = omega (arith, (right_yes c.args.w.now c.requires).memtype_most)

pub returns : goal.returns
returns c =
    order_kept c.args.w.now _ _ _ _ _ _ _ _ _ c.word.ensures c.if-word-eq0.false c.word-2.ensures c.word-3.ensures c.word-4.ensures c.narrow.ensures c.word-5.ensures c.word-6.ensures c.narrow-2.ensures c.word-7.ensures
