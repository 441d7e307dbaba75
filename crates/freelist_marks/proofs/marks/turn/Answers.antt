use borrow.Author.Rules.{rules}
use Rattle.freelist_marks.proofs.Fronts.{turned_some, turned_none}
use Rattle.freelist_marks.proofs.marks.turn.Goals as goal

pub returns-then-m-gt1 : goal.returns-then-m-gt1
returns-then-m-gt1 c =
    turned_some c.args.m c.args.list.now _ _ _ (search rules) c.requires c.word-first.ensures c.shift.ensures c.put.ensures

pub returns-else-m-gt1 : goal.returns-else-m-gt1
returns-else-m-gt1 c =
    turned_none c.args.m c.args.list.now (search rules)
