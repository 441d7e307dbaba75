use Rattle.freelist_regions.proofs.Passing.{one_passed}
use Rattle.freelist_regions.proofs.search.is_long_at.Goals as goal

pub returns : goal.returns
returns c =
    let a = c.args in
    λ e. one_passed a.size a.t.now a.i _ _ c.word_at-start.ensures c.word_at-end.ensures (c.is_long.ensures e)
