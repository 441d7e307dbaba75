use Rattle.std.proofs.Common.{ap, ◌∙◌, length, rules}
use Rattle.linked_rank.specs.Rows.{rows_out}
use Rattle.linked_rank.proofs.Rows.{rows_more, rows_length}
use Rattle.linked_rank.proofs.put_rows.Goals as goal

pub loop-u-init : goal.loop-u-init
unfolding rows_out
loop-u-init c = search rules

pub loop-u-preserved : goal.loop-u-preserved
loop-u-preserved c = let l = c.loop-u in rows_more _ l.u _ _ _ l.invariant c.put_row.ensures

pub shape_of-w : goal.shape_of-w
shape_of-w c = let l = c.loop-u in ap length l.invariant ∙ rows_length _ l.u _
