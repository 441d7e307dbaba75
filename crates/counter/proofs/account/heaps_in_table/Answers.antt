use mathlib.Core.Path.{ap, ◌∙◌}
use mathlib.Core.Bool.{Bool, ◌&&◌}
use Rattle.counter.proofs.Tables.{heaps_none, heaps_more}
use Rattle.counter.proofs.account.heaps_in_table.Goals as goal

pub loop-h-init : goal.loop-h-init
loop-h-init c = heaps_none _

pub loop-h-preserved : goal.loop-h-preserved
loop-h-preserved c =
    let l = c.loop-h in
    ap (λ (b : Bool). l.ok && b) c.heap_in_table-ok.ensures ∙ heaps_more _ l.h-index l.ok l.invariant
