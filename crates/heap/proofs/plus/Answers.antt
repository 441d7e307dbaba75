use Rattle.std.proofs.Common.{ℕ, ◌+◌, ◌%◌, ◌^◌, ap, rules}
use Rattle.heap.proofs.Totals.{plus_carried}
use Rattle.heap.proofs.plus.Goals as goal

pub returns : goal.returns
returns c =
    let a = c.args in
    let low = c.overflowing_add-lo in
    plus_carried a.t a.n low.result.0 _ low.result.1 (search rules) (search rules) (search rules) low.ensures.value low.ensures.overflow
    (ap (λ (k : ℕ). (a.t.hi + k) % 2 ^ 64) c.from.ensures)
