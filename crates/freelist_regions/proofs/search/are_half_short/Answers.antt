use Rattle.std.proofs.Common.{◌+◌, false, refl, arith}
use Rattle.lists.proofs.Bools.{true_false, not_yes}
use Rattle.freelist_regions.proofs.Passing.{both_passed}
use Rattle.freelist_regions.proofs.search.are_half_short.Goals as goal

pub returns-then-is_long_at : goal.returns-then-is_long_at
returns-then-is_long_at c = λ e. absurd (true_false false e refl)

pub returns : goal.returns
returns c =
    let a = c.args in
    λ e. both_passed a.size a.t.now a.i (a.i + 1) (a.i + 1 + 1) (a.i + 2) (omega arith) (c.is_long_at-2.ensures (not_yes _ e)) (c.is_long_at.ensures c.if-is_long_at.false)
