use Rattle.std.proofs.Common.{rules}
use Rattle.heap.proofs.Bounds.{agrees_carried}
use Rattle.heap.proofs.agrees.Goals as goal

pub returns : goal.returns
returns c =
    let low = c.overflowing_add-lo in
    let high = rw c.from.ensures at c.overflowing_add-hi.ensures in
    agrees_carried c.args.h (search rules, search rules) (search rules, search rules) (search rules) low.result.0 c.overflowing_add-hi.result.0 low.result.1 c.overflowing_add-hi.result.1
    (search rules) low.ensures.value low.ensures.overflow high.value high.overflow
