use native.Mathlib.Omega.{arith}
use Rattle.freelist_walk.proofs.Piecing.{within_low, within_high}
use Rattle.freelist_walk.proofs.passes.is_within.Goals as goal

pub returns-then-l-size : goal.returns-then-l-size
returns-then-l-size c =
    let a = c.args in
    within_low a.l a.size (omega arith)

pub returns-else-l-size : goal.returns-else-l-size
returns-else-l-size c =
    let a = c.args in
    within_high a.l a.size (omega arith)
