use Rattle.std.proofs.Common.{rules}
use Rattle.heap.proofs.Bounds.{bears_near, bears_far}
use Rattle.heap.proofs.bears.Goals as goal

pub returns-then-bytes-le-HEAP_BYTES_MOST : goal.returns-then-bytes-le-HEAP_BYTES_MOST
returns-then-bytes-le-HEAP_BYTES_MOST c =
    let a = c.args in
    bears_near a.h (search rules, search rules) a.bytes (search rules) (search rules)

pub returns-else-bytes-le-HEAP_BYTES_MOST : goal.returns-else-bytes-le-HEAP_BYTES_MOST
returns-else-bytes-le-HEAP_BYTES_MOST c =
    let a = c.args in
    bears_far a.h (search rules, search rules) a.bytes (search rules) (search rules)
