use Rattle.std.proofs.Common.{ap, ◌∙◌, length, rules}
use Rattle.linked_rank.specs.Rows.{types_out}
use Rattle.linked_rank.proofs.Rows.{types_more, types_length}
use Rattle.linked_rank.proofs.put_types.Goals as goal

pub loop-j-init : goal.loop-j-init
unfolding types_out
loop-j-init c = search rules

pub loop-j-preserved : goal.loop-j-preserved
loop-j-preserved c = let l = c.loop-j in types_more _ _ l.j _ _ _ l.invariant c.put.ensures

pub shape_of-w : goal.shape_of-w
shape_of-w c = let l = c.loop-j in ap length l.invariant ∙ types_length _ _ l.j _
