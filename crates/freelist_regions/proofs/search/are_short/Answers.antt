use Rattle.std.proofs.Common.{◌+◌, false, refl, arith}
use Rattle.lists.proofs.Bools.{true_false}
use Rattle.freelist_regions.proofs.Passing.{both_passed}
use Rattle.freelist_regions.proofs.search.are_short.Goals as goal

pub returns-then-are_half_short : goal.returns-then-are_half_short
returns-then-are_half_short c =
    let a = c.args in
    λ e. both_passed a.size a.t.now a.i (a.i + 2) (a.i + 2 + 2) (a.i + 4) (omega arith) (c.are_half_short-then-are_half_short.ensures e) (c.are_half_short.ensures c.if-are_half_short.true)

pub returns : goal.returns
returns c = λ e. absurd (true_false false e refl)
